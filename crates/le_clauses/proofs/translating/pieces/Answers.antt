use Rattle.std.proofs.Common.{sym, ap, ◌∙◌}
use Rattle.le_clauses.specs.declared.whole.Piece.{Piece}
use Rattle.le_clauses.specs.Pieces.{Read}
use Rattle.le_clauses.proofs.PieceSteps.{pieces_more, pieces_other}
use Rattle.le_clauses.proofs.translating.pieces.Goals as goal
use Rattle.le_clauses.proofs.translating.pieces.Goals.{then-is_read+in_ok-piece+in_ok-push, else-is_read}

pub loop-section-preserved : goal.loop-section-preserved
loop-section-preserved c =
    let a = c.args in
    let l = c.loop-section in
    elim c.if-is_read.branch [
      | then-is_read+in_ok-piece+in_ok-push w ↦
          let f : Read Piece = record { value = w.in_ok-piece.piece; names = w.piece.new.names; count = w.piece.new.count; groups = w.piece.new.groups.items } in
          pieces_more a.templates.now l.names c.if-is_read.names l.count c.if-is_read.count l.groups.items c.if-is_read.groups.items a.layout.now a.sections.now l.section-index c.section-item.result f l.pieces.items c.if-is_read.pieces.items _
          c.loop-section-test.true c.section-item.is (sym c.is_read.ensures ∙ w.if-is_read.true) w.in_ok-piece.ensures.exact w.names-is w.count-is (ap (λ v. v.items) w.groups-is) (ap (λ v. v.items) w.pieces-is ∙ w.in_ok-push.ensures.items) l.invariant
      | else-is_read w ↦
          pieces_other a.templates.now l.names c.if-is_read.names l.count c.if-is_read.count l.groups.items c.if-is_read.groups.items a.layout.now a.sections.now l.section-index c.section-item.result l.pieces.items c.if-is_read.pieces.items _
          c.loop-section-test.true c.section-item.is (sym c.is_read.ensures ∙ w.if-is_read.false) w.names-is w.count-is (ap (λ v. v.items) w.groups-is) (ap (λ v. v.items) w.pieces-is) l.invariant
    ]
