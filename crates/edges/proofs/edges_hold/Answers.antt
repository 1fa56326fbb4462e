use Rattle.edges.proofs.ClassEdges.{class_edges}
use Rattle.edges.proofs.edges_hold.Goals as goal

pub returns : goal.returns
returns c = class_edges
