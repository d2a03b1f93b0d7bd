use Rattle.std.proofs.Common.{arith, sym, ap, ◌∙◌, take, drop, ◌+◌, ◌-◌, length-append}
use Rattle.le_base.proofs.OutsideLemmas.{front_given}
use Rattle.le_base.proofs.memory.MemSourceSource.read.Goals as goal

pub returns-clause-content : goal.returns-clause-content
returns-clause-content c =
    let at = c.self.inside.at in
    let n = c.min-count.result in
    let copied = c.copy_from_slice.ensures.after ∙ ap (λ bytes. take ((at + n) - at) (drop at bytes)) c.deref-2.ensures.value in
    let given = front_given c.self.inside.bytes.items c.args.buffer.now c.copy_from_slice.new.self at n ((at + n) - at) copied (omega arith) (omega arith) in
    (omega arith, omega (arith, c.copy_from_slice.ensures.len, length-append c.copy_from_slice.new.self (drop n c.args.buffer.now)), ap (λ s. s.left) (sym c.self.view_is) ∙ given)
