-- A template whose words don't stand among the tokens in order has no reading.
use Rattle.std.proofs.Common.{◌≡◌, ℕ, zero, suc, ◌+◌, ◌<◌, ◌≤◌, Bool, true, false, cond, Option, None, Some, List, [], ◌∷◌, ◌++◌, length, map, flat_map, drop, slice_range, sym, refl, ap, ◌∙◌, arith}
use Rattle.std.specs.List.{All}
use Rattle.std.proofs.lemmas.List.Elements.{All-head, All-tail, All-weaker}
use Rattle.le_layout.specs.declared.token.Token.{Token}
use Rattle.le_layout.specs.declared.layout.Layout.{Layout}
use Rattle.le_layout.specs.Words.{is_this_word, has_word}
use Rattle.le_templates.specs.declared.part.Part.{Part}
use Rattle.le_templates.specs.declared.part.Part.TheVariants.{Word, Slot}
use Rattle.le_match.specs.Readings.{phrase_lengths, cuts}
use Rattle.le_match.specs.Walks.{behind_word, behind_part, may_fit}
use Rattle.le_match.proofs.CutLemmas.{next, length_bounds}

-- ---- the walk

pub behind_word_step : (l : Layout) (w : List ℕ) (at to : ℕ) (b : Bool) → at < to → to ≤ length l.tokens → b ≡ has_word l at w → behind_word l w (slice_range l.tokens at to) ≡ cond b (Some (slice_range l.tokens (at + 1) to)) (behind_word l w (slice_range l.tokens (at + 1) to))
unfolding has_word
behind_word_step l w at to b low high e =
    ap (behind_word l w) (next l at to low high)
    ∙ ap (λ v. cond v (Some (slice_range l.tokens (at + 1) to)) (behind_word l w (slice_range l.tokens (at + 1) to))) (sym e)

pub behind_slot_is : (l : Layout) (s : List ℕ) (at to : ℕ) → at < to → to ≤ length l.tokens → behind_part l (Slot s) (slice_range l.tokens at to) ≡ Some (slice_range l.tokens (at + 1) to)
behind_slot_is l s at to low high = ap (behind_part l (Slot s)) (next l at to low high)

-- what is left to fit once a part has taken its token
abbrev pub fit_behind : Layout → List Part → Option (List Token) → Bool
fit_behind l ps (Some rest) = may_fit l ps rest
fit_behind l ps None = false

pub fit_step : (l : Layout) (p : Part) (ps : List Part) (ts : List Token) → may_fit l (p ∷ ps) ts ≡ fit_behind l ps (behind_part l p ts)
fit_step l p ps ts = cases (behind_part l p ts)
  where
    cases : (o : Option (List Token)) → elim o [ Some rest ↦ may_fit l ps rest | None ↦ false ] ≡ fit_behind l ps o
    cases (Some rest) = refl
    cases None = refl

-- ---- the law

-- more tokens in front do no harm
pub word_then : (l : Layout) (w : List ℕ) (ps : List Part) → ((ts : List Token) (t : Token) → may_fit l ps ts ≡ true → may_fit l ps (t ∷ ts) ≡ true) → (ts : List Token) → fit_behind l ps (behind_word l w ts) ≡ true → may_fit l ps ts ≡ true
word_then l w ps more [] h = cc
word_then l w ps more (u ∷ us) h = cases (word_then l w ps more us) (is_this_word l w u) h
  where
    cases : (fit_behind l ps (behind_word l w us) ≡ true → may_fit l ps us ≡ true) → (b : Bool) → fit_behind l ps (cond b (Some us) (behind_word l w us)) ≡ true → may_fit l ps (u ∷ us) ≡ true
    cases later true g = more us u g
    cases later false g = more us u (later g)

pub fits_more : (l : Layout) (ps : List Part) (ts : List Token) (t : Token) → may_fit l ps ts ≡ true → may_fit l ps (t ∷ ts) ≡ true
fits_more l [] ts t h = refl
fits_more l (Slot s ∷ ps) [] t h = cc
fits_more l (Slot s ∷ ps) (u ∷ us) t h = fits_more l ps us u h
fits_more l (Word w ∷ ps) ts t h = fit_step l (Word w) ps (t ∷ ts) ∙ cases (word_then l w ps (fits_more l ps) ts) (is_this_word l w t)
  where
    cases : (fit_behind l ps (behind_word l w ts) ≡ true → may_fit l ps ts ≡ true) → (b : Bool) → fit_behind l ps (cond b (Some ts) (behind_word l w ts)) ≡ true
    cases here true = here (sym (fit_step l (Word w) ps ts) ∙ h)
    cases here false = sym (fit_step l (Word w) ps ts) ∙ h

pub fits_drop : (l : Layout) (ps : List Part) (n : ℕ) (ts : List Token) → may_fit l ps (drop n ts) ≡ true → may_fit l ps ts ≡ true
fits_drop l ps zero ts h = h
fits_drop l ps (suc n) [] h = h
fits_drop l ps (suc n) (t ∷ ts) h = fits_more l ps ts t (fits_drop l ps n ts h)

pub flat_none : (f : ℕ → List (List ℕ)) (ns : List ℕ) → All (λ n. f n ≡ []) ns → flat_map f ns ≡ []
flat_none f [] h = refl
flat_none f (n ∷ ns) h = ap (λ s. s ++ flat_map f ns) (All-head (λ n. f n ≡ []) n ns h) ∙ flat_none f ns (All-tail (λ n. f n ≡ []) n ns h)

pub unfit_drop : (l : Layout) (ps : List Part) (n : ℕ) (ts : List Token) → may_fit l ps ts ≡ false → may_fit l ps (drop n ts) ≡ false
unfit_drop l ps n ts h = cases (may_fit l ps (drop n ts)) refl
  where
    cases : (b : Bool) → may_fit l ps (drop n ts) ≡ b → b ≡ false
    cases false e = refl
    cases true e = absurd (let g : may_fit l ps ts ≡ true = fits_drop l ps n ts e in cc)

pub none_fits : (l : Layout) (ps : List Part) (ts : List Token) → may_fit l ps ts ≡ false → cuts l ps ts ≡ []
none_fits l [] ts h = cc
none_fits l (Word w ∷ ps) [] h = refl
none_fits l (Word w ∷ ps) (t ∷ ts) h = cases (none_fits l ps ts) (is_this_word l w t) (sym (fit_step l (Word w) ps (t ∷ ts)) ∙ h)
  where
    cases : (may_fit l ps ts ≡ false → cuts l ps ts ≡ []) → (b : Bool) → fit_behind l ps (cond b (Some ts) (behind_word l w ts)) ≡ false → cond b (cuts l ps ts) [] ≡ []
    cases there true g = there g
    cases there false g = refl
none_fits l (Slot s ∷ ps) [] h = refl
none_fits l (Slot s ∷ ps) (t ∷ ts) h =
    let f : ℕ → List (List ℕ) = λ n. map (λ ks. n ∷ ks) (cuts l ps (drop n (t ∷ ts))) in
    flat_none f (phrase_lengths l (t ∷ ts)) (All-weaker (λ n. (0 < n) × (n ≤ length (t ∷ ts))) (λ n. f n ≡ []) (each (none_fits l ps)) (phrase_lengths l (t ∷ ts)) (length_bounds l (t ∷ ts)))
  where
    each : ((us : List Token) → may_fit l ps us ≡ false → cuts l ps us ≡ []) → (n : ℕ) → (0 < n) × (n ≤ length (t ∷ ts)) → map (λ ks. n ∷ ks) (cuts l ps (drop n (t ∷ ts))) ≡ []
    each there zero p = absurd (let low : 0 < 0 = p.0 in omega arith)
    each there (suc n) p = ap (map (λ ks. suc n ∷ ks)) (there (drop n ts) (unfit_drop l ps n ts h))
