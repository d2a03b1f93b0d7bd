use Rattle.std.proofs.Common.{rules, [], ◌∷◌, sym, subst}
use Rattle.le_subst.specs.Symbols.{AreSymbols}
use Rattle.le_subst.proofs.SymbolLists.{AreSymbols-append, AreSymbols-flat}
use Rattle.le_goals.proofs.terms.push_shown.Goals as goal

pub returns-in_ok-extend_from_slice-in-Var-clause-in_range :
    goal.returns-in_ok-extend_from_slice-in-Var-clause-in_range
returns-in_ok-extend_from_slice-in-Var-clause-in_range c =
    subst AreSymbols (sym c.in_ok-extend_from_slice-in-Var.ensures.items)
    (AreSymbols-append c.args.new.now.items c.as_syms.result.now c.requires.so_far
    (subst AreSymbols (sym c.as_syms.ensures.symbols) (AreSymbols-flat c.in_ok-term-in-Var.term c.as_syms.ensures.in_range)))

pub returns-in_ok-push-in_default : goal.returns-in_ok-push-in_default
returns-in_ok-push-in_default c = record {
  items = search rules;
  in_range = subst AreSymbols (sym c.in_ok-push-in_default.ensures.items)
      (AreSymbols-append c.args.new.now.items (c.args.sym ∷ []) c.requires.so_far (c.requires.in_range, tt));
}
