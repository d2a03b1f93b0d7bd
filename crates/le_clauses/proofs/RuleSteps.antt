-- One step of each walk over the sentences of rules and queries.
use Rattle.std.proofs.Common.{◌≡◌, ℕ, ◌+◌, ◌<◌, ◌≤◌, Bool, true, false, cond, Result, Ok, Err, List, [], ◌∷◌, ◌++◌, length, get_or, drop, append_assoc, refl, sym, ap, ◌∙◌}
use Rattle.std.proofs.lemmas.Bool.{lt-ltb, le-ltb}
use Rattle.le_base.specs.declared.code.Code.TheVariants.{PredefinedHead}
use Rattle.le_layout.specs.declared.span.Span.{Span}
use Rattle.le_base.specs.declared.stop.Refusal.{Refusal}
use Rattle.le_layout.specs.declared.layout.Layout.{Layout}
use Rattle.le_layout.specs.declared.token.Token.{Token}
use Rattle.le_layout.specs.Words.{tokens_of, token_of}
use Rattle.le_templates.specs.declared.part.Template.{Template}
use Rattle.le_terms.specs.declared.program.Atom.{Atom}
use Rattle.le_match.specs.declared.readings.BestReading.{BestReading}
use Rattle.le_match.specs.declared.readings.BestReading.TheVariants as best
use Rattle.le_match.specs.Readings.{best_of}
use Rattle.le_match.specs.Terms.{Found, refused, atom_found, by_best, atom_of}
use Rattle.le_terms.specs.Tree.{Tree}
use Rattle.le_clauses.specs.Rules.{new_scope, is_predefined, goes_before, not_predefined, head_of}
use Rattle.le_clauses.specs.declared.part.Part.{Part}

-- parts that were read, before those of the conditions after them
abbrev pub after_parts : List Part → Result (Found (List Part)) Refusal → Result (Found (List Part)) Refusal
after_parts done (Ok f) = Ok (record { value = done ++ f.value; names = f.names; scope = f.scope })
after_parts done (Err r) = Err r

-- ---- conclusions

found_pred : (pred : ℕ) (r : Result (Found (List Tree)) Refusal) (f : Found Atom) → atom_found pred r ≡ Ok f → pred ≡ f.value.pred
found_pred pred (Ok g) f e =
    let is : record { value = record { pred = pred; args = g.value }; names = g.names; scope = g.scope } ≡ f = cc in
    ap (λ (x : Found Atom). x.value.pred) is
found_pred pred (Err r) f e = absurd (cc)

best_pred : (users : List Template) (names : List (List ℕ)) (layout : Layout) (ts : List Token) (f : Found Atom) (b : BestReading) → by_best users names new_scope false layout ts b ≡ Ok f → is_predefined b ≡ Rattle.std.proofs.Common.ltb f.value.pred 20
best_pred users names layout ts f best.None e = absurd (cc)
best_pred users names layout ts f (best.One r) e = ap (λ n. Rattle.std.proofs.Common.ltb n 20) (found_pred r.pred _ f e)
best_pred users names layout ts f (best.Two r s) e = absurd (cc)

atom_pred : (users : List Template) (names : List (List ℕ)) (layout : Layout) (ts : List Token) (f : Found Atom) → atom_of users names new_scope false layout ts ≡ Ok f → is_predefined (best_of users layout ts) ≡ Rattle.std.proofs.Common.ltb f.value.pred 20
unfolding atom_of
atom_pred users names layout ts f e = best_pred users names layout ts f (best_of users layout ts) e

head_is : (users : List Template) (names : List (List ℕ)) (layout : Layout) (span : Span) (b : Bool) (r : Result (Found Atom) Refusal) → is_predefined (best_of users layout (tokens_of layout span)) ≡ b → atom_of users names new_scope false layout (tokens_of layout span) ≡ r → head_of users names layout span ≡ cond b (not_predefined (token_of layout span.from) r) r
unfolding head_of
head_is users names layout span b r e h =
    let found = atom_of users names new_scope false layout (tokens_of layout span) in
    ap (λ x. cond x (not_predefined (token_of layout span.from) found) found) e
    ∙ ap (λ x. cond b (not_predefined (token_of layout span.from) x) x) h

pub head_low : (users : List Template) (names : List (List ℕ)) (layout : Layout) (span : Span) (f : Found Atom) → atom_of users names new_scope false layout (tokens_of layout span) ≡ Ok f → f.value.pred < 20 → head_of users names layout span ≡ refused PredefinedHead (token_of layout span.from)
head_low users names layout span f e low =
    head_is users names layout span true (Ok f) (atom_pred users names layout (tokens_of layout span) f e ∙ lt-ltb f.value.pred 20 low) e

pub head_high : (users : List Template) (names : List (List ℕ)) (layout : Layout) (span : Span) (f : Found Atom) → atom_of users names new_scope false layout (tokens_of layout span) ≡ Ok f → 20 ≤ f.value.pred → head_of users names layout span ≡ Ok f
head_high users names layout span f e high =
    head_is users names layout span false (Ok f) (atom_pred users names layout (tokens_of layout span) f e ∙ le-ltb f.value.pred 20 high) e

pub head_err : (users : List Template) (names : List (List ℕ)) (layout : Layout) (span : Span) (r : Refusal) (b g : Bool) → atom_of users names new_scope false layout (tokens_of layout span) ≡ Err r → is_predefined (best_of users layout (tokens_of layout span)) ≡ b → goes_before r PredefinedHead (token_of layout span.from) ≡ g → head_of users names layout span ≡ cond b (cond g (Err r) (refused PredefinedHead (token_of layout span.from))) (Err r)
head_err users names layout span r b g e p h =
    head_is users names layout span b (Err r) p e
    ∙ ap (λ x. cond b (cond x (Err r) (refused PredefinedHead (token_of layout span.from))) (Err r)) h
