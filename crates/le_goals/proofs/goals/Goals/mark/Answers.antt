use Rattle.std.proofs.Common.{◌≡◌, ◌++◌, [], ◌∷◌, length, ap, ◌∙◌}
use Rattle.le_store.proofs.Pushes.{push_ok}
use Rattle.le_goals.proofs.Marks.{count-marks, marked, marked-marks}
use Rattle.le_goals.proofs.goals.Goals.mark.Goals as goal

pub invariant_of-self-2 : goal.invariant_of-self-2
invariant_of-self-2 c =
    let pushed : c.push.new.self.items ≡ c.reserve-2.new.self.items ++ record { mark = c.mark-mark.result; frames = c.len.result } ∷ [] =
    push_ok c.push.result c.unwrap.result c.push.new.self.items c.reserve-2.new.self.items _ c.push.ensures.items c.unwrap.ensures in
    let count : c.len.result ≡ length c.self.inside.frames.items = c.len.ensures ∙ c.self.inside.frames.ok.0 in
    marked c.self.inside.program.now c.self.inside.store c.self.inside.frames.items c.self.inside.kept.items c.self.invariant c.mark-mark.new.self c.push.new.self.items c.mark-mark.result c.len.result
    (c.mark-mark.ensures.now ∙ c.in_ok-reserve.ensures.now)
    (c.mark-mark.ensures.marks ∙ (ap (λ ms. ms ++ c.reserve.new.self.now ∷ []) c.in_ok-reserve.ensures.marks ∙ ap (λ s. c.self.inside.store.marks ++ s ∷ []) c.in_ok-reserve.ensures.now))
    (c.mark-mark.ensures.place ∙ ap length c.in_ok-reserve.ensures.marks)
    count
    (pushed ∙ ap (λ ks. ks ++ record { mark = c.mark-mark.result; frames = c.len.result } ∷ []) c.in_ok-reserve-2.ensures.items)

pub returns-clause-number : goal.returns-clause-number
returns-clause-number c =
    c.len-number.ensures ∙ (c.self.inside.kept.ok.0 ∙ count-marks c.self.inside.program.now c.self.inside.store c.self.inside.frames.items c.self.inside.kept.items c.self.invariant c.args.self.now c.self.view_is)

pub returns-clause-marks : goal.returns-clause-marks
returns-clause-marks c =
    let pushed : c.push.new.self.items ≡ c.reserve-2.new.self.items ++ record { mark = c.mark-mark.result; frames = c.len.result } ∷ [] =
    push_ok c.push.result c.unwrap.result c.push.new.self.items c.reserve-2.new.self.items _ c.push.ensures.items c.unwrap.ensures in
    let count : c.len.result ≡ length c.self.inside.frames.items = c.len.ensures ∙ c.self.inside.frames.ok.0 in
    marked-marks c.self.inside.program.now c.self.inside.store c.self.inside.frames.items c.self.inside.kept.items c.self.invariant c.mark-mark.new.self c.push.new.self.items c.mark-mark.result c.len.result c.args.self.now c.self.view_is
    (c.mark-mark.ensures.marks ∙ (ap (λ ms. ms ++ c.reserve.new.self.now ∷ []) c.in_ok-reserve.ensures.marks ∙ ap (λ s. c.self.inside.store.marks ++ s ∷ []) c.in_ok-reserve.ensures.now))
    count
    (pushed ∙ ap (λ ks. ks ++ record { mark = c.mark-mark.result; frames = c.len.result } ∷ []) c.in_ok-reserve-2.ensures.items)
