use Rattle.std.proofs.Common.{◌≡◌, ◌∙◌, ap, sym, pos}
use Rattle.le_terms.specs.Tree.{tree_of, tree_of-flat, root, IsTerm-flat}
use Rattle.le_builtins.specs.Lists.{list_length, last_tail}
use Rattle.le_builtins.specs.Compute.{number_result, settled}
use Rattle.le_builtins.proofs.ListEnds.{answered-open, answered-ended, answered-other}
use Rattle.le_builtins.proofs.lists.length_of.Goals as goal

pub list_end-items-requires : goal.list_end-items-requires
list_end-items-requires c = (IsTerm-flat c.args.list.now c.as_syms.result.now c.as_syms.ensures.symbols c.as_syms.ensures.in_range).whole

pub returns-in-Var-clause-answer : goal.returns-in-Var-clause-answer
returns-in-Var-clause-answer c =
    let back : tree_of c.as_syms.result.now ≡ c.args.list.now = ap tree_of c.as_syms.ensures.symbols ∙ tree_of-flat c.args.list.now in
    let end : c.list_end-items.result.1 ≡ root (last_tail c.args.list.now) = c.list_end-items.ensures.end ∙ ap (λ t. root (last_tail t)) back in
    answered-open c.args.list.now c.in-Var.field-0 (number_result (pos (list_length c.args.list.now))) (sym c.in-Var.is ∙ end)

pub returns-in-Nil-clause-answer : goal.returns-in-Nil-clause-answer
returns-in-Nil-clause-answer c =
    let back : tree_of c.as_syms.result.now ≡ c.args.list.now = ap tree_of c.as_syms.ensures.symbols ∙ tree_of-flat c.args.list.now in
    let end : c.list_end-items.result.1 ≡ root (last_tail c.args.list.now) = c.list_end-items.ensures.end ∙ ap (λ t. root (last_tail t)) back in
    let items : c.list_end-items.result.0 ≡ list_length c.args.list.now = c.list_end-items.ensures.items ∙ ap list_length back in
    c.length_result.ensures.answer
    ∙ (ap (λ n. settled (number_result (pos n))) items
    ∙ answered-ended c.args.list.now (number_result (pos (list_length c.args.list.now))) (sym c.in-Nil.is ∙ end))

pub returns-in_default : goal.returns-in_default
returns-in_default c =
    let back : tree_of c.as_syms.result.now ≡ c.args.list.now = ap tree_of c.as_syms.ensures.symbols ∙ tree_of-flat c.args.list.now in
    let end : c.list_end-items.result.1 ≡ root (last_tail c.args.list.now) = c.list_end-items.ensures.end ∙ ap (λ t. root (last_tail t)) back in
    record {
      answer = answered-other c.args.list.now (number_result (pos (list_length c.args.list.now))) (λ v same. c.in_default.not-Var v (end ∙ same)) (λ same. c.in_default.not-Nil (end ∙ same));
      in_range = tt;
    }
