use Rattle.std.proofs.Common.{◌≡◌, List, Bool, cond, eqb, map, replicate, sym, subst, w32}
use Rattle.std.specs.Simd.Lanes.{sel_l}
use Rattle.std.proofs.lemmas.Simd.{tops_compared}
use Rattle.le_lanes.proofs.Lanes.{zero-for}
use Rattle.le_lanes.proofs.keys.zero_for.Goals as goal

pub returns : goal.returns
returns c =
    let P : List Bool → Type 0 = λ ms. sel_l ms (replicate 16 0) c.args.lanes ≡ map (λ one. cond (eqb one c.args.key) 0 one) c.args.lanes in
    subst P (sym (tops_compared w32 eqb c.args.lanes (replicate 16 c.args.key))) (zero-for c.args.key c.args.lanes 16 c.fits-lanes.0)
