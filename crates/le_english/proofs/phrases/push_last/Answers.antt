use Rattle.std.proofs.Common.{◌≡◌}
use Rattle.std.specs.BTreeSet.{contains}
use Rattle.std.specs.Ordering.{nat_cmp}
use Rattle.le_english.specs.Phrases.{bar_sign, close_sign}
use Rattle.le_english.specs.Lines.{at_item, last_tail, with_tokens}
use Rattle.le_english.proofs.LineLemmas.{last-line, ok-same}
use Rattle.le_english.proofs.phrases.push_last.Goals as goal

pub returns : goal.returns
returns c =
    let users = c.args.templates.now in
    let names = c.args.names.now in
    let seen = contains nat_cmp c.args.seen.now in
    let line = c.args.line.now in
    ok-same c.put-2.result _ (c.put-2.new.self ≡ with_tokens line (last_tail users names seen c.args.symbol))
    (λ same. last-line line c.put.new.self c.push_item.new.line c.put-2.new.self bar_sign close_sign (at_item users names seen c.args.symbol) c.in_ok-put.ensures c.in_ok-push_item.ensures same)
    c.put-2.ensures
