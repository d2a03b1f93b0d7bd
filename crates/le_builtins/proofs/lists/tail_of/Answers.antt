use Rattle.std.proofs.Common.{◌≡◌, ◌-◌, ◌∙◌, sym, length, Some, arith}
use Rattle.le_terms.specs.Tree.{flat}
use Rattle.le_builtins.proofs.ListEnds.{behind-first, behind-head}
use Rattle.le_builtins.proofs.lists.tail_of.Goals as goal

pub returns : goal.returns
returns c = λ head tail all.
    let whole = behind-first c.args.list.now (length c.args.list.now - 1) head tail all (omega arith) in
    let same : Some c.unwrap-head.result ≡ Some (length (flat head)) = sym c.unwrap-head.ensures ∙ c.first_term_len.ensures.every head (flat tail, whole) in
    let skipped : c.unwrap-head.result ≡ length (flat head) = cc in
    behind-head _ c.unwrap-head.result _ head tail whole skipped (omega arith)
