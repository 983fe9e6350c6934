-- That what the pieces compute is what is expected.
mod PiecesHold
mod RecutsHold
