use Rattle.std.proofs.Common.{◌≡◌, map, drop}
use Rattle.ms_text_grammar.specs.LayoutInsts.{edge_tokens}
use Rattle.ms_text_grammar.specs.LayoutPieces.{after_commas}
use Rattle.ms_write_values.specs.Sheets.{put}
use Rattle.ms_write.proofs.operations.write_more_edges.Given as goal

abbrev pub invariant-loop-edge : goal.invariant-loop-edge
invariant-loop-edge l = put l.writer (after_commas (map (edge_tokens l.ty) (drop l.edge-index l.edges))) ≡ put l.fn.writer (after_commas (map (edge_tokens l.ty) l.edges))
