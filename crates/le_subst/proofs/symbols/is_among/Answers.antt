use Rattle.std.proofs.Common.{◌∙◌, ap}
use Rattle.std.specs.List.{list_any}
use Rattle.le_terms.specs.declared.term.Sym.TheVariants.{Var}
use Rattle.le_terms.specs.contracts.term.SymPartialEq.TheImpl.{eq-value}
use Rattle.le_subst.proofs.Among.{list_any-flat}
use Rattle.le_subst.proofs.symbols.is_among.Goals as goal

pub returns : goal.returns
returns c = λ tree same. c.contains.ensures.value ∙ (ap (list_any (λ symbol. eq-value.it symbol (Var c.args.var))) same ∙ list_any-flat c.args.var tree)
