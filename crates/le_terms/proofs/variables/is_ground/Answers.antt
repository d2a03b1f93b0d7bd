use Rattle.std.proofs.Common.{◌∙◌, sym, ap}
use Rattle.le_terms.specs.Variables.{occurrences, firsts}
use Rattle.le_terms.specs.Walks.{symbol_variables}
use Rattle.le_terms.proofs.Preorder.{symbol_variables-flat, firsts-none}
use Rattle.le_terms.proofs.variables.is_ground.Goals as goal

pub returns : goal.returns
returns c =
    let symbols = c.as_syms.ensures.symbols in
    let term = c.args.term.now in (
      λ none. ap firsts (sym (symbol_variables-flat term) ∙ (ap symbol_variables (sym symbols) ∙ c.has_no_variable.ensures.0 none)),
      λ ground. c.has_no_variable.ensures.1 (ap symbol_variables symbols ∙ (symbol_variables-flat term ∙ firsts-none (occurrences term) ground)),
    )
