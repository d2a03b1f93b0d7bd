use Rattle.std.proofs.Common.{◌≡◌, ◌<◌, ◌++◌, ◌∷◌, [], length, take, get_or, rules}
use Rattle.le_terms.specs.Variables.{all_occurrences}
use Rattle.le_english.specs.Phrases.{phrase_of}
use Rattle.le_english.specs.Lines.{capped}
use Rattle.le_english.proofs.DraftLemmas.{next-completes}
use Rattle.le_english.proofs.draft.push_next.Goals as goal

pub returns : goal.returns
returns c =
    λ slot parts whole counts h.
    let users = c.args.templates.now in
    let names = c.args.names.now in
    let args = c.args.args.now in
    let n = length c.args.draft.now.lengths.items in
    let t = c.index-args-next.result in
    let ks = all_occurrences (take n args) in
    let low : n < length args = search rules in
    let at : get_or args n t ≡ t = search rules in
    let lengths : c.push.new.self.items ≡ c.args.draft.now.lengths.items ++ capped (length (phrase_of users names ks t)) ∷ [] = search (rules, c.in_ok-count.ensures.count ks h.printed) in
    next-completes users names args c.args.marked c.args.draft.now _ slot parts whole counts t t h low at (λ rest. c.in_ok-count.ensures.line ks rest h.printed) (c.in_ok-count.ensures.seen ks h.printed) lengths
