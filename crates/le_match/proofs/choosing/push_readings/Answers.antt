use Rattle.std.proofs.Common.{◌≡◌, ℕ, ◌+◌, List, [], ◌∷◌, ◌++◌, length, map, take, drop, sym, ap, ◌∙◌, arith, length-append}
use Rattle.std.proofs.lemmas.List.{drop_all}
use Rattle.le_match.specs.declared.readings.Reading.{Reading}
use Rattle.le_match.proofs.CutLemmas.{add_step, add_full, two_all}
use Rattle.le_match.proofs.choosing.push_readings.Goals as goal
use Rattle.le_match.proofs.choosing.push_readings.Goals.{then-len-lt2+in_ok-from_slice+in_ok-push, else-len-lt2}

pub loop-lengths-preserved : goal.loop-lengths-preserved
loop-lengths-preserved c =
    let f : List ℕ → Reading = λ ns. record { pred = c.args.pred; lengths = ns } in
    let ways = c.args.ways.now in
    let i = c.loop-lengths.lengths-index in
    let r = c.lengths-item.result in
    let found = c.loop-lengths.readings.items in
    elim c.if-len-lt2.branch [
      | then-len-lt2+in_ok-from_slice+in_ok-push w ↦
          let pushed : c.if-len-lt2.readings.items ≡ found ++ f r ∷ [] =
          ap (λ v. v.items) w.readings-is ∙ w.in_ok-push.ensures.items ∙ ap (λ x. found ++ f x ∷ []) (w.from_vec-lengths.ensures ∙ w.in_ok-from_slice.ensures.items ∙ w.as_slice.ensures) in
          let size = ap length pushed ∙ length-append found (f r ∷ []) in
          record {
            few = omega (arith, size);
            best = ap (λ xs. take 2 (xs ++ map f (drop (i + 1) ways))) pushed ∙ add_step f found ways i r c.loop-lengths-test.true c.lengths-item.is ∙ c.loop-lengths.invariant.best;
          }
      | else-len-lt2 w ↦
          let same : c.if-len-lt2.readings.items ≡ found = ap (λ v. v.items) w.readings-is in
          let size = ap length same in
          record {
            few = omega (arith, size);
            best = ap (λ xs. take 2 (xs ++ map f (drop (i + 1) ways))) same ∙ add_full found (map f (drop (i + 1) ways)) (map f (drop i ways)) (omega arith) ∙ c.loop-lengths.invariant.best;
          }
    ]

pub returns : goal.returns
returns c =
    let f : List ℕ → Reading = λ ns. record { pred = c.args.pred; lengths = ns } in
    let ways = c.args.ways.now in
    let found = c.loop-lengths.readings.items in
    two_all found (c.args.readings.now.items ++ map f ways) c.loop-lengths.invariant.few
    (ap (λ s. take 2 (found ++ map f s)) (sym (drop_all c.loop-lengths.lengths-index ways c.loop-lengths-test.false)) ∙ c.loop-lengths.invariant.best)
