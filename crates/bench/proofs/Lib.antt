pub mod OnBench
