use Rattle.std.proofs.Common.{◌≡◌, ◌-◌, ◌<◌, ◌∙◌, ◌∷◌, ◌++◌, [], List, suc, take, reverse, length, ap, sym, subst, arith}
use Rattle.std.proofs.Math.Seq.{take-suc}
use Rattle.le_derivations.specs.declared.path.PathStep.{PathStep}
use Rattle.le_derivations.specs.Paths.{IsPartWay}
use Rattle.le_derivations.proofs.Fronts.{last-first}
use Rattle.le_derivations.proofs.GoingUp.{part-step, part-end}
use Rattle.le_derivations.proofs.proving.proved.Goals as goal

pub loop-at-preserved : goal.loop-at-preserved
loop-at-preserved c =
    let path : List PathStep = c.args.path.now in
    let at = c.loop-at.at in
    let inside : at - 1 < length path = omega (arith, c.loop-at.invariant.inside, c.loop-at-test.true) in
    let place : at ≡ suc (at - 1) = omega (arith, c.loop-at-test.true) in
    let step : PathStep = c.index-path-at.result in
    let turned : reverse (take at path) ≡ step ∷ reverse (take (at - 1) path) =
    ap (λ n. reverse (take n path)) place ∙ (ap reverse (take-suc path (at - 1) step inside ∙ ap (λ x. take (at - 1) path ++ x ∷ []) (sym c.index-path-at.is)) ∙ last-first (take (at - 1) path) step) in
    let p = c.loop-at.proving in
    record {
      inside = omega (arith, c.loop-at.invariant.inside);
      part = λ whole start.
          let Part : List PathStep → Type 0 = λ keeps. IsPartWay keeps (reverse p.nodes.items) p.proofs p.by whole in
          part-step step (reverse (take (at - 1) path)) (reverse p.nodes.items) (reverse c.add_step.new.proving.nodes.items) p.proofs c.add_step.new.proving.proofs p.by c.add_step.new.proving.by whole
          (subst Part turned (c.loop-at.invariant.part whole start))
          c.in_ok-add_step.ensures;
    }

pub returns : goal.returns
returns c = λ whole start.
    let p = c.loop-at.proving in
    let none : c.loop-at.at ≡ 0 = omega (arith, c.loop-at-test.false) in
    let Part : List PathStep → Type 0 = λ keeps. IsPartWay keeps (reverse p.nodes.items) p.proofs p.by whole in
    part-end (reverse p.nodes.items) p.proofs p.by whole (subst Part (ap (λ n. reverse (take n c.args.path.now)) none) (c.loop-at.invariant.part whole start))
