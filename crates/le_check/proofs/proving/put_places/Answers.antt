use Rattle.std.proofs.Common.{◌≡◌, ◌++◌, take, drop, rules, ◌∙◌}
use Rattle.le_check.proofs.Resuming.{put-in}
use Rattle.le_check.proofs.proving.put_places.Goals as goal

pub returns : goal.returns
returns c =
    let a : c.append-3.new.self.items ≡ (take c.args.place c.args.places.items ++ c.args.new.items) ++ drop 1 (drop c.args.place c.args.places.items) = search rules in
    a ∙ put-in c.args.place c.args.places.items c.args.new.items
