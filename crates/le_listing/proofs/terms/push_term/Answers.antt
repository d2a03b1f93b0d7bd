use Rattle.std.proofs.Common.{◌≡◌, ◌∙◌, ◌++◌, ℕ, List, OnOk, ap, subst, true}
use Rattle.std.proofs.lemmas.List.Elements.{All-same}
use Rattle.le_terms.specs.Tree.{flat}
use Rattle.le_listing.specs.Symbols.{HasDay, symbols_text}
use Rattle.le_listing.proofs.SymbolSteps.{days, term_symbols}
use Rattle.le_listing.proofs.terms.push_term.Goals as goal

pub push_symbols-requires : goal.push_symbols-requires
push_symbols-requires c = All-same HasDay c.as_syms.result.now (flat c.args.term.now) c.as_syms.ensures.symbols (days c.args.term.now c.as_syms.ensures.in_range)

pub returns : goal.returns
returns c =
    let names = c.args.names.now in
    let vars = c.args.vars.now in
    let Written : List ℕ → Type 0 = λ t. OnOk c.push_symbols.result (c.push_symbols.new.text ≡ c.args.text.now ++ t) in
    subst Written (ap (symbols_text names vars true) c.as_syms.ensures.symbols ∙ term_symbols names vars c.args.term.now) c.push_symbols.ensures
