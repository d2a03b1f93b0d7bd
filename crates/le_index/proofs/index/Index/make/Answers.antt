use Rattle.std.proofs.Common.{◌+◌, ◌++◌, ◌∷◌, ◌==◌, [], if◌then◌else◌, ap, ◌∙◌}
use Rattle.le_index.specs.Keys.{key_of}
use Rattle.le_index.proofs.Listings.{numbers-next, keys-next}
use Rattle.le_index.proofs.index.Index.make.Goals as goal

pub loop-place-preserved : goal.loop-place-preserved
loop-place-preserved c =
    let clause = c.index-clauses-place.result in
    let place = c.loop-place.place in
    let clauses = c.args.clauses.now in
    record {
      numbers = λ pred.
          c.in_ok-add.ensures.numbers pred
          ∙ (ap (λ ns. ns ++ (if clause.head.pred == pred then (place + 1) ∷ [] else [])) (c.loop-place.invariant.numbers pred)
          ∙ numbers-next pred clauses place clause c.loop-place-test.true c.index-clauses-place.is);
      keys = λ pred.
          c.in_ok-add.ensures.keys pred
          ∙ (ap (λ ks. ks ++ (if clause.head.pred == pred then key_of clause.head ∷ [] else [])) (c.loop-place.invariant.keys pred)
          ∙ keys-next pred clauses place clause c.loop-place-test.true c.index-clauses-place.is);
    }
