use Rattle.std.proofs.Common.{◌++◌, ◌∙◌, sym, ap, flat_map}
use Rattle.le_base.specs.declared.code.Code.TheVariants.{BadIndent}
use Rattle.le_conds.specs.Faults.{fault_if, is_bare, between_faults, block_faults, least_onto}
use Rattle.le_conds.proofs.StackLemmas.{least-append}
use Rattle.le_conds.proofs.shape.for_all_fault.Goals as goal

pub returns : goal.returns
returns c = λ ms same.
    let e = c.args.entry in
    let between = flat_map (between_faults e.column) ms in
    let inner = block_faults (is_bare e) ms in
    c.sooner_if.ensures
    ∙ ap (λ b. least_onto (fault_if b BadIndent e.own) c.between_fault-least.result) (c.is_unfilled.ensures ms same)
    ∙ ap (least_onto (fault_if _ BadIndent e.own))
    (c.between_fault-least.ensures ms same
    ∙ ap (least_onto between) (c.block_fault-least.ensures ms same ∙ ap (λ b. least_onto (block_faults b ms) c.args.least) c.is_bare.ensures)
    ∙ sym (least-append between inner c.args.least))
    ∙ sym (least-append (fault_if _ BadIndent e.own) (between ++ inner) c.args.least)
