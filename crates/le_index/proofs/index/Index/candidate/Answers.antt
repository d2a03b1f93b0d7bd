use Rattle.std.proofs.Common.{◌≡◌, nat_eq, [], ℕ, Some, None, length, ap, sym, subst, ◌∙◌, arith}
use Rattle.indexmap.specs.IndexMap.{get}
use Rattle.le_index.specs.Candidates.{candidate_among, numbers_from, keys_from, AreRising}
use Rattle.le_index.specs.Listing.{numbers_in, keys_in}
use Rattle.le_index.proofs.Listings.{numbers-rise, rising-from_less, same-lengths}
use Rattle.le_index.proofs.Searching.{among-clauses}
use Rattle.le_index.proofs.index.Index.candidate.Goals as goal

pub returns-in-Some : goal.returns-in-Some
returns-in-Some c = λ clauses is.
    let listed = c.in-Some.listed.now in
    let pred = c.args.pred in
    let there : Some listed ≡ get nat_eq c.args.self.now.lists pred = c.in-Some.ensures.value in
    let numbers : listed.numbers.items ≡ numbers_from pred 1 clauses = ap numbers_in there ∙ is.numbers pred in
    let keys : listed.keys.items ≡ keys_from pred clauses = ap keys_in there ∙ is.keys pred in
    let rising : AreRising listed.numbers.items = subst AreRising (sym numbers) (rising-from_less 0 1 (numbers_from pred 1 clauses) (omega arith) (numbers-rise pred 1 clauses)) in
    let same : length listed.numbers.items ≡ length listed.keys.items = ap (length {A = ℕ}) numbers ∙ (same-lengths pred 1 clauses ∙ sym (ap (length {A = ℕ}) keys)) in
    c.candidate.ensures rising same
    ∙ (ap (λ ns. candidate_among c.args.key c.args.from ns listed.keys.items) numbers
    ∙ (ap (candidate_among c.args.key c.args.from (numbers_from pred 1 clauses)) keys
    ∙ among-clauses pred c.args.key c.args.from 1 clauses))

pub returns-in-None : goal.returns-in-None
returns-in-None c = λ clauses is.
    let pred = c.args.pred in
    let there : None ≡ get nat_eq c.args.self.now.lists pred = c.in-None.ensures.value in
    let numbers : [] ≡ numbers_from pred 1 clauses = ap numbers_in there ∙ is.numbers pred in
    ap (λ ns. candidate_among c.args.key c.args.from ns (keys_from pred clauses)) numbers
    ∙ among-clauses pred c.args.key c.args.from 1 clauses
