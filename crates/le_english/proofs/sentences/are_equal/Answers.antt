use Rattle.std.proofs.Common.{◌≡◌, ◌<◌, ◌^◌, length, get_or, rules}
use Rattle.le_english.proofs.DraftLemmas.{other-at, same-at}
use Rattle.le_english.proofs.sentences.are_equal.Goals as goal

pub returns-then-found-i : goal.returns-then-found-i
returns-then-found-i c =
    λ ls e.
    let found = c.args.found.now in
    let lengths = c.args.lengths.now in
    let i = c.loop-i.i in
    let low : i < length found = search rules in
    let long : length found ≡ length lengths = search rules in
    let small : get_or found i 0 < 2 ^ 32 = search rules in
    let ne : get_or found i 0 ≡ get_or lengths i 0 → ⊥ = search rules in
    other-at found lengths ls i low long e ne small (c.loop-i.invariant ls e)

pub loop-i-preserved : goal.loop-i-preserved
loop-i-preserved c =
    λ ls e.
    let found = c.args.found.now in
    let lengths = c.args.lengths.now in
    let i = c.loop-i.i in
    let low : i < length found = search rules in
    let long : length found ≡ length lengths = search rules in
    let small : get_or found i 0 < 2 ^ 32 = search rules in
    let same : get_or found i 0 ≡ get_or lengths i 0 = search rules in
    same-at found lengths ls i low long e same small (c.loop-i.invariant ls e)
