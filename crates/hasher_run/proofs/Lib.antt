pub mod PiecesLeft
