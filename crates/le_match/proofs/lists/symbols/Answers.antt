use Rattle.std.proofs.Common.{rules, ◌≡◌, ◌∷◌, ◌++◌, ◌+◌, map, take, drop, get_or, ap, sym, ◌∙◌, arith, subst}
use Rattle.std.proofs.lemmas.List.{drop_more, take_more}
use Rattle.le_scope.specs.declared.parts.ListPart.TheVariants.{Cell}
use Rattle.le_match.specs.Terms.{member, onto_symbols, symbols_of}
use Rattle.le_match.specs.Walks.{AreSpelled}
use Rattle.le_match.proofs.ReadLemmas.{scope_more, front_more}
use Rattle.le_match.proofs.ListLemmas.{onto_more, symbols_next, spelled_more}
use Rattle.le_match.proofs.lists.symbols.Goals as goal

pub returns-in_err-more-clause-scope : goal.returns-in_err-more-clause-scope
returns-in_err-more-clause-scope c = scope_more c.args.scope.now c.loop-part.scope c.part_symbols.new.scope c.loop-part.invariant.scope c.part_symbols.ensures.scope

pub returns-in_err-extend_from_slice-clause-scope : goal.returns-in_err-extend_from_slice-clause-scope
returns-in_err-extend_from_slice-clause-scope c = scope_more c.args.scope.now c.loop-part.scope c.part_symbols.new.scope c.loop-part.invariant.scope c.part_symbols.ensures.scope

pub loop-part-preserved : goal.loop-part-preserved
loop-part-preserved c =
    let i = c.loop-part.part-index in
    let parts = c.args.parts.now in
    let us = c.args.templates.now in
    let l = c.args.layout.now in
    let q = c.args.query in
    let found = c.loop-part.found.items in
    let more = c.in_ok-more.more.items in
    let all = c.extend_from_slice.new.self.items in
    let names = c.part_symbols.new.names in
    let scope = c.part_symbols.new.scope in
    let part = get_or parts i Cell in
    let rest = map (member l.tokens) (drop (i + 1) parts) in
    let whole : map (member l.tokens) (drop i parts) ≡ member l.tokens part ∷ rest = ap (map (member l.tokens)) (drop_more parts i Cell c.loop-part-test.true) in
    let pushed : all ≡ found ++ more = search rules in
    let step : symbols_of us c.loop-part.names c.loop-part.scope q l (map (member l.tokens) (drop i parts)) ≡ onto_symbols more (symbols_of us names scope q l rest) =
    symbols_next us c.loop-part.names c.loop-part.scope q l (map (member l.tokens) (drop i parts)) rest (member l.tokens part) (record { value = more; names = names; scope = scope }) whole c.in_ok-more.ensures.exact in
    let few = c.part_symbols.ensures.names.few in
    let before = c.loop-part.invariant.few in
    record {
      few = omega (arith, few, before);
      front = front_more c.args.names.now c.loop-part.names names c.loop-part.invariant.front c.part_symbols.ensures.names.front;
      scope = scope_more c.args.scope.now c.loop-part.scope scope c.loop-part.invariant.scope c.part_symbols.ensures.scope;
      spelled = subst (λ ps. AreSpelled ps all) (sym (take_more parts i Cell c.loop-part-test.true)) (spelled_more (take i parts) part found more all c.loop-part.invariant.spelled c.in_ok-more.ensures.spelled pushed);
      symbols = onto_more found more all (symbols_of us names scope q l rest) pushed ∙ sym (ap (onto_symbols found) step) ∙ c.loop-part.invariant.symbols;
    }
