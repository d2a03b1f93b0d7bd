use Rattle.std.proofs.Common.{rules, ◌≡◌, ◌∷◌, ◌++◌, [], ◌+◌, ◌-◌, map, drop, ap, sym, ◌∙◌, arith}
use Rattle.std.proofs.lemmas.List.{drop_more}
use Rattle.le_layout.specs.Words.{tokens_of, token_of}
use Rattle.le_match.specs.declared.sharing.Place.TheVariants as place
use Rattle.le_match.specs.Shares.{phrase, word}
use Rattle.le_match.specs.Terms.{terms_of, onto_terms}
use Rattle.le_match.specs.Walks.{share_of, place_size, total_size}
use Rattle.le_match.proofs.ReadLemmas.{scope_more, front_more, terms_phrase, terms_word, onto_all, onto_all_more}
use Rattle.le_match.proofs.sentences.terms.Goals as goal
use Rattle.le_match.proofs.sentences.terms.Goals.{in-Slot+in_ok-phrase_term+in_ok-push, in_default}

pub returns-in_err-phrase_term-clause-scope : goal.returns-in_err-phrase_term-clause-scope
returns-in_err-phrase_term-clause-scope c = scope_more c.args.scope.now c.loop-place.scope c.phrase_term.new.scope c.loop-place.invariant.scope c.phrase_term.ensures.scope

pub returns-in_err-push-clause-scope : goal.returns-in_err-push-clause-scope
returns-in_err-push-clause-scope c = scope_more c.args.scope.now c.loop-place.scope c.phrase_term.new.scope c.loop-place.invariant.scope c.phrase_term.ensures.scope

pub loop-place-preserved : goal.loop-place-preserved
loop-place-preserved c = elim c.match-place.branch [
  | in-Slot+in_ok-phrase_term+in_ok-push w ↦
      let i = c.loop-place.place-index in
      let places = c.args.places.now in
      let us = c.args.templates.now in
      let l = c.args.layout.now in
      let q = c.args.query in
      let ts = tokens_of l w.in-Slot.span in
      let rest = map (share_of l) (drop (i + 1) places) in
      let all : map (share_of l) (drop i places) ≡ phrase ts ∷ rest = ap (map (share_of l)) (drop_more places i (place.Word 0) c.loop-place-test.true) ∙ ap (λ p. share_of l p ∷ rest) w.in-Slot.is in
      let step : terms_of us c.loop-place.names c.loop-place.scope q l (map (share_of l) (drop i places)) ≡ onto_terms w.in_ok-phrase_term.field-0 (terms_of us w.phrase_term.new.names w.phrase_term.new.scope q l rest) =
      terms_phrase us c.loop-place.names c.loop-place.scope q l (map (share_of l) (drop i places)) rest ts (record { value = w.in_ok-phrase_term.field-0; names = w.phrase_term.new.names; scope = w.phrase_term.new.scope }) all w.in_ok-phrase_term.ensures.exact in
      let more : w.push.new.self.items ≡ c.loop-place.found.items ++ w.in_ok-phrase_term.field-0 ∷ [] = search rules in
      let few = w.phrase_term.ensures.names.few in
      let size : total_size (drop i places) ≡ (w.in-Slot.span.to - w.in-Slot.span.from) + total_size (drop (i + 1) places) = ap total_size (drop_more places i (place.Word 0) c.loop-place-test.true) ∙ ap (λ p. place_size p + total_size (drop (i + 1) places)) w.in-Slot.is in
      let before = c.loop-place.invariant.few in
      record {
        few = rw w.names-is (omega (arith, few, before, size));
        front = rw w.names-is (front_more c.args.names.now c.loop-place.names w.phrase_term.new.names c.loop-place.invariant.front w.phrase_term.ensures.names.front);
        scope = rw w.scope-is (scope_more c.args.scope.now c.loop-place.scope w.phrase_term.new.scope c.loop-place.invariant.scope w.phrase_term.ensures.scope);
        terms = rw (w.names-is, w.scope-is, w.found-is) (onto_all_more c.loop-place.found.items w.push.new.self.items w.in_ok-phrase_term.field-0 (terms_of us w.phrase_term.new.names w.phrase_term.new.scope q l rest) more ∙ sym (ap (onto_all c.loop-place.found.items) step) ∙ c.loop-place.invariant.terms);
      }
  | in_default w ↦
      let i = c.loop-place.place-index in
      let places = c.args.places.now in
      let us = c.args.templates.now in
      let l = c.args.layout.now in
      let q = c.args.query in
      let rest = map (share_of l) (drop (i + 1) places) in
      let all : map (share_of l) (drop i places) ≡ word (token_of l w.in_default.field-0) ∷ rest = ap (map (share_of l)) (drop_more places i (place.Word 0) c.loop-place-test.true) ∙ ap (λ p. share_of l p ∷ rest) w.in_default.is in
      let before = c.loop-place.invariant.few in
      let size : total_size (drop i places) ≡ 1 + total_size (drop (i + 1) places) = ap total_size (drop_more places i (place.Word 0) c.loop-place-test.true) ∙ ap (λ p. place_size p + total_size (drop (i + 1) places)) w.in_default.is in
      record {
        few = rw w.names-is (omega (arith, before, size));
        front = rw w.names-is c.loop-place.invariant.front;
        scope = rw w.scope-is c.loop-place.invariant.scope;
        terms = rw (w.names-is, w.scope-is, w.found-is) (sym (ap (onto_all c.loop-place.found.items) (terms_word us c.loop-place.names c.loop-place.scope q l (map (share_of l) (drop i places)) rest (token_of l w.in_default.field-0) all)) ∙ c.loop-place.invariant.terms);
      }
]
