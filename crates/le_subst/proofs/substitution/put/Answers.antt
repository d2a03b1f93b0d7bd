use Rattle.std.proofs.Common.{rules, ◌++◌, [], ◌∷◌, ap, sym, subst, ◌∙◌}
use Rattle.le_terms.specs.declared.term.Sym.TheVariants.{Var}
use Rattle.le_terms.specs.Tree.{flat}
use Rattle.le_subst.specs.Symbols.{AreSymbols, symbol_image, map_image}
use Rattle.le_subst.proofs.Lookups.{value_at-found, value_at-missing}
use Rattle.le_subst.proofs.SymbolLists.{AreSymbols-append, AreSymbols-flat}
use Rattle.le_subst.proofs.substitution.put.Goals as goal

pub returns-in_ok-extend_from_slice-in-Some-clause-items :
    goal.returns-in_ok-extend_from_slice-in-Some-clause-items
returns-in_ok-extend_from_slice-in-Some-clause-items c =
    c.in_ok-extend_from_slice-in-Some.ensures.items
    ∙ ap (λ symbols. c.args.new.now.items ++ symbols)
    (c.as_syms.ensures.symbols
    ∙ (ap flat (sym (value_at-found c.args.map.now.entries c.in-Var.var c.in-Some.term.now c.in-Some.ensures.value))
    ∙ ap (symbol_image (map_image c.args.map.now.entries)) (sym c.in-Var.is)))

pub returns-in_ok-extend_from_slice-in-Some-clause-symbols :
    goal.returns-in_ok-extend_from_slice-in-Some-clause-symbols
returns-in_ok-extend_from_slice-in-Some-clause-symbols c =
    subst AreSymbols (sym c.in_ok-extend_from_slice-in-Some.ensures.items)
    (AreSymbols-append c.args.new.now.items c.as_syms.result.now c.requires.new
    (subst AreSymbols (sym c.as_syms.ensures.symbols) (AreSymbols-flat c.in-Some.term.now c.as_syms.ensures.in_range)))

pub returns-in_ok-push-in-None-clause-items : goal.returns-in_ok-push-in-None-clause-items
returns-in_ok-push-in-None-clause-items c =
    c.in_ok-push-in-None.ensures.items
    ∙ ap (λ symbols. c.args.new.now.items ++ symbols)
    (ap flat (sym (value_at-missing c.args.map.now.entries c.in-Var.var c.in-None.ensures.value))
    ∙ ap (symbol_image (map_image c.args.map.now.entries)) (sym c.in-Var.is))

pub returns-in_ok-push-in-None-clause-symbols : goal.returns-in_ok-push-in-None-clause-symbols
returns-in_ok-push-in-None-clause-symbols c =
    subst AreSymbols (sym c.in_ok-push-in-None.ensures.items)
    (AreSymbols-append c.args.new.now.items (Var c.in-Var.var ∷ []) c.requires.new (tt, tt))

pub returns-in_ok-push-in_default : goal.returns-in_ok-push-in_default
returns-in_ok-push-in_default c = record {
  items = search rules;
  symbols = subst AreSymbols (sym c.in_ok-push-in_default.ensures.items)
      (AreSymbols-append c.args.new.now.items (c.args.sym ∷ []) c.requires.new (c.requires.sym, tt));
}
