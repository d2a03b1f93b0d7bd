use Rattle.std.proofs.Common.{◌≡◌, ◌/◌, ◌%◌, ◌^◌, ◌<◌, ℕ, List, map, get_or, sym, subst, ap, ◌∙◌, w8, arith}
use Rattle.std.specs.Simd.Lanes.{Each1}
use Rattle.std.proofs.lemmas.Simd.{below_from_Fits, map-map, zip2_of_maps}
use Rattle.le_lanes.proofs.Lanes.{each-map}
use Rattle.le_lanes.proofs.classes.class_bits.Goals as goal

pub rows_of-requires : goal.rows_of-requires
rows_of-requires c =
    let P : List ℕ → Type 0 = λ xs. Each1 (λ n. n < 32) xs in
    subst P (sym c.row_numbers.ensures) (each-map (λ x. x < 256) (λ n. n < 32) (λ x. x / 8) (λ x h. omega arith) c.args.lanes (below_from_Fits w8 c.args.lanes c.fits-lanes.1))

pub bits_of-requires : goal.bits_of-requires
bits_of-requires c =
    let P : List ℕ → Type 0 = λ xs. Each1 (λ n. n < 8) xs in
    subst P (sym c.bit_numbers.ensures) (each-map (λ x. x < 256) (λ n. n < 8) (λ x. x % 8) (λ x h. omega arith) c.args.lanes (below_from_Fits w8 c.args.lanes c.fits-lanes.1))

pub returns : goal.returns
returns c =
    let rows : c.rows_of.result ≡ map (λ x. get_or c.args.class.now (x / 8) 0) c.args.lanes =
    c.rows_of.ensures ∙ (ap (map (λ n. get_or c.args.class.now n 0)) c.row_numbers.ensures ∙ map-map (λ n. get_or c.args.class.now n 0) (λ x. x / 8) c.args.lanes) in
    c.bits_of.ensures ∙ zip2_of_maps (λ row n. row / 2 ^ n % 2) (λ x. get_or c.args.class.now (x / 8) 0) (λ x. x % 8) c.args.lanes rows c.bit_numbers.ensures
