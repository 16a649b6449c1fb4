pub mod Loan
