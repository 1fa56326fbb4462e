pub mod ClassEdges
