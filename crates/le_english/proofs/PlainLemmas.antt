-- A sentence of a template without slots has this single best reading.
use Rattle.std.proofs.Common.{◌≡◌, ◌==◌, ◌⊎◌, ℕ, zero, suc, ◌+◌, ◌<◌, ◌≤◌, true, false, cond, List, [], ◌∷◌, ◌++◌, map, length, drop, filter, fold, Some, All, sym, refl, ap, ap₂, ◌∙◌, inl, inr, subst, ⊎_elim, arith, length-drop}
use Rattle.std.specs.Char.{to_ascii_lowercase}
use Rattle.std.proofs.lemmas.Bool.{cases_Bool, cond-true, cond-false, eq-eqb}
use Rattle.std.proofs.lemmas.List.Elements.{filter-append, All-head}
use Rattle.le_layout.specs.declared.token.Token.{Token}
use Rattle.le_layout.specs.declared.layout.Layout.{Layout}
use Rattle.le_layout.specs.Words.{same_word, is_this_word}
use Rattle.le_templates.specs.declared.part.Part.{Part}
use Rattle.le_templates.specs.declared.part.Part.TheVariants.{Word, Slot}
use Rattle.le_templates.specs.declared.part.Template.{Template}
use Rattle.le_templates.specs.Form.{is_word_part, word_count}
use Rattle.le_templates.specs.Skeletons.{skeleton}
use Rattle.le_templates.specs.Table.{table_of, in_use}
use Rattle.le_match.specs.declared.readings.Reading.{Reading}
use Rattle.le_match.specs.declared.readings.BestReading.TheVariants as best
use Rattle.le_match.specs.Readings.{cuts, is_marked, ways, readings_by, readings_from, parts_at, words_of, most_words, best_readings, first_two, best_of}
use Rattle.le_match.specs.Shares.{Fits}
use Rattle.le_match.proofs.FitsLemmas.{cuts_fit}
use Rattle.le_match.proofs.BestLemmas.{most_append, none_by}
use Rattle.le_layout.specs.Spellings.{Spelling, spellings}
use Rattle.le_english.specs.Phrases.{word_of}
use Rattle.le_english.specs.Sentences.{has_slot, HasOneOfEach}
use Rattle.le_english.proofs.ReadingLemmas.{said, spelled-head, spelled-tail, word-here, same-refl, same-words, parts_of, readings-is, table-length}

abbrev counted : ℕ → List Part → ℕ
counted a parts = fold (λ n (part : Part). n + cond (is_word_part part) 1 0) a parts

counted-more : (a : ℕ) (parts : List Part) → counted a parts ≡ a + counted 0 parts
counted-more a [] = omega arith
counted-more a (part ∷ parts) =
    let c = cond (is_word_part part) 1 0 in
    let one : counted (a + c) parts ≡ a + c + counted 0 parts = counted-more (a + c) parts in
    let two : counted (0 + c) parts ≡ 0 + c + counted 0 parts = counted-more (0 + c) parts in
    one ∙ omega (arith, two)

one-more : (w : List ℕ) (others : List Part) → word_count (Word w ∷ others) ≡ 1 + word_count others
one-more w others = counted-more 1 others

-- a reading has a token for each word, and one more for a slot
count-le : (layout : Layout) (others : List Part) (ts : List Token) (ks : List ℕ) → Fits layout 0 others ts ks → word_count others ≤ length ts
count-le layout [] [] [] h = omega arith
count-le layout [] [] (k ∷ ks) h = absurd h
count-le layout [] (t ∷ ts) ks h = absurd h
count-le layout (Word w ∷ others) [] ks h = absurd h
count-le layout (Word w ∷ others) (t ∷ ts) ks h = omega (arith, one-more w others, count-le layout others ts ks h.1)
count-le layout (Slot s ∷ others) ts [] h = absurd h
count-le layout (Slot s ∷ others) ts (k ∷ ks) h = omega (arith, count-le layout others (drop (k + (0 + 0)) ts) ks h.3, length-drop (k + (0 + 0)) ts)

count-lt : (layout : Layout) (others : List Part) (ts : List Token) (ks : List ℕ) → has_slot others ≡ true → Fits layout 0 others ts ks → word_count others < length ts
count-lt layout [] ts ks s h = cc
count-lt layout (Word w ∷ others) [] ks s h = absurd h
count-lt layout (Word w ∷ others) (t ∷ ts) ks s h = omega (arith, one-more w others, count-lt layout others ts ks s h.1)
count-lt layout (Slot r ∷ others) ts [] s h = absurd h
count-lt layout (Slot r ∷ others) ts (k ∷ ks) s h = omega (arith, count-le layout others (drop (k + (0 + 0)) ts) ks h.3, length-drop (k + (0 + 0)) ts, h.0, h.1)

slot-fewer : (layout : Layout) (others : List Part) (ts : List Token) (found : List (List ℕ)) → has_slot others ≡ true → All (λ ks. Fits layout 0 others ts ks) found → (found ≡ []) ⊎ (word_count others < length ts)
slot-fewer layout others ts [] s h = inl refl
slot-fewer layout others ts (ks ∷ found) s h = inr (count-lt layout others ts ks s (All-head (λ ns. Fits layout 0 others ts ns) ks found h))

-- without slots a template's words are all
own-plain : (layout : Layout) (parts : List Part) (phrases : List (List Spelling)) (ts : List Token) → has_slot parts ≡ false → spellings layout ts ≡ said false parts phrases → cuts layout parts ts ≡ [] ∷ []
own-plain layout [] phrases [] n e = refl
own-plain layout [] phrases (t ∷ ts) n e = cc
own-plain layout (Word w ∷ parts) phrases [] n e = cc
own-plain layout (Word w ∷ parts) phrases (t ∷ ts) n e =
    cond-true (is_this_word layout w t) _ _ (word-here layout t w w (spelled-head layout t ts (word_of w) (said false parts phrases) e) ∙ same-refl (map to_ascii_lowercase w))
    ∙ own-plain layout parts phrases ts n (spelled-tail layout t ts (word_of w) (said false parts phrases) e)
own-plain layout (Slot s ∷ parts) phrases ts n e = cc

own-count : (layout : Layout) (parts : List Part) (phrases : List (List Spelling)) (ts : List Token) → has_slot parts ≡ false → spellings layout ts ≡ said false parts phrases → word_count parts ≡ length ts
own-count layout [] phrases [] n e = refl
own-count layout [] phrases (t ∷ ts) n e = cc
own-count layout (Word w ∷ parts) phrases [] n e = cc
own-count layout (Word w ∷ parts) phrases (t ∷ ts) n e = omega (arith, one-more w parts, own-count layout parts phrases ts n (spelled-tail layout t ts (word_of w) (said false parts phrases) e))
own-count layout (Slot s ∷ parts) phrases ts n e = cc

words-cuts : (layout : Layout) (others parts : List Part) (phrases : List (List Spelling)) (ts : List Token) → has_slot others ≡ false → has_slot parts ≡ false → spellings layout ts ≡ said false parts phrases → (cuts layout others ts ≡ []) ⊎ (skeleton others ≡ skeleton parts)
words-cuts layout [] [] phrases ts n m e = inr refl
words-cuts layout [] (Word w ∷ parts) phrases [] n m e = cc
words-cuts layout [] (Word w ∷ parts) phrases (t ∷ ts) n m e = inl refl
words-cuts layout [] (Slot s ∷ parts) phrases ts n m e = cc
words-cuts layout (Word v ∷ others) parts phrases [] n m e = inl refl
words-cuts layout (Word v ∷ others) [] phrases (t ∷ ts) n m e = cc
words-cuts layout (Word v ∷ others) (Word w ∷ parts) phrases (t ∷ ts) n m e =
    let here = word-here layout t w v (spelled-head layout t ts (word_of w) (said false parts phrases) e) in
    ⊎_elim (λ k. ⊎_elim (λ none. inl (cond-true (is_this_word layout v t) _ _ (here ∙ k) ∙ none))
    (λ same. inr (ap₂ (λ x xs. Some x ∷ xs) (same-words w v k) same))
    (words-cuts layout others parts phrases ts n m (spelled-tail layout t ts (word_of w) (said false parts phrases) e)))
    (λ k. inl (cond-false (is_this_word layout v t) _ _ (here ∙ k)))
    (cases_Bool (same_word w v))
words-cuts layout (Word v ∷ others) (Slot s ∷ parts) phrases (t ∷ ts) n m e = cc
words-cuts layout (Slot r ∷ others) parts phrases ts n m e = cc

-- readings with fewer words than so many, and one with so many among them
record Quiet (users : List Template) (m : ℕ) (rs : List Reading) : Type 0 where
  none : filter (λ r. words_of users r == m) rs ≡ []
  most : most_words users rs ≤ m

record Lone (users : List Template) (m : ℕ) (r : Reading) (rs : List Reading) : Type 0 where
  only : filter (λ r. words_of users r == m) rs ≡ r ∷ []
  most : most_words users rs ≡ m

quiet-both : (users : List Template) (m : ℕ) (xs ys : List Reading) → Quiet users m xs → Quiet users m ys → Quiet users m (xs ++ ys)
quiet-both users m xs ys p q = record {
  none = filter-append (λ r. words_of users r == m) xs ys ∙ ap₂ (λ a b. a ++ b) p.none q.none;
  most = omega (arith, most_append users xs ys, p.most, q.most);
}

lone-first : (users : List Template) (m : ℕ) (r : Reading) (xs ys : List Reading) → Lone users m r xs → Quiet users m ys → Lone users m r (xs ++ ys)
lone-first users m r xs ys p q = record {
  only = filter-append (λ r. words_of users r == m) xs ys ∙ ap₂ (λ a b. a ++ b) p.only q.none;
  most = omega (arith, most_append users xs ys, p.most, q.most);
}

lone-later : (users : List Template) (m : ℕ) (r : Reading) (xs ys : List Reading) → Quiet users m xs → Lone users m r ys → Lone users m r (xs ++ ys)
lone-later users m r xs ys p q = record {
  only = filter-append (λ r. words_of users r == m) xs ys ∙ ap₂ (λ a b. a ++ b) p.none q.only;
  most = omega (arith, most_append users xs ys, p.most, q.most);
}

quiet-none : (users : List Template) (m : ℕ) → Quiet users m []
quiet-none users m = record { none = refl; most = omega arith }

below : (users : List Template) (q : ℕ) (found : List (List ℕ)) → most_words users (readings_by q found) ≤ word_count (parts_at users q)
below users q [] = omega arith
below users q (ks ∷ found) = let h = below users q found in omega arith

quiet-by : (users : List Template) (m q : ℕ) (found : List (List ℕ)) → (found ≡ []) ⊎ (word_count (parts_at users q) < m) → Quiet users m (readings_by q found)
quiet-by users m q found h =
    ⊎_elim (λ e. subst (λ xs. Quiet users m (readings_by q xs)) (sym e) (quiet-none users m))
    (λ l. record { none = none_by users q m found (λ (e : word_count (parts_at users q) ≡ m). omega arith); most = omega (arith, below users q found) })
    h

lone-by : (users : List Template) (m q : ℕ) → word_count (parts_at users q) ≡ m → Lone users m (record { pred = q; lengths = [] }) (readings_by q ([] ∷ []))
lone-by users m q e = record {
  only = cond-true (word_count (parts_at users q) == m) _ _ (eq-eqb (word_count (parts_at users q)) m e);
  most = omega (arith, e);
}

quiet-used : (users : List Template) (m q : ℕ) (found : List (List ℕ)) → (in_use users q ≡ true → (found ≡ []) ⊎ (word_count (parts_at users q) < m)) → Quiet users m (cond (in_use users q) (readings_by q found) [])
quiet-used users m q found h =
    ⊎_elim (λ u. subst (Quiet users m) (sym (cond-true (in_use users q) (readings_by q found) [] u)) (quiet-by users m q found (h u)))
    (λ u. subst (Quiet users m) (sym (cond-false (in_use users q) (readings_by q found) [] u)) (quiet-none users m))
    (cases_Bool (in_use users q))

abbrev Fewer : List Template → Layout → List Token → ℕ → ℕ → Type 0
Fewer users layout ts m q = in_use users q ≡ true → (ways layout (parts_at users q) ts ≡ []) ⊎ (word_count (parts_at users q) < m)

quiet-from : (users : List Template) (layout : Layout) (ts : List Token) (m n : ℕ) (templates : List Template) → ((k : ℕ) → k < length templates → parts_of templates k ≡ parts_at users (n + k)) → ((k : ℕ) → k < length templates → Fewer users layout ts m (n + k)) → Quiet users m (readings_from users layout ts n templates)
quiet-from users layout ts m n [] same h = quiet-none users m
quiet-from users layout ts m n (t ∷ templates) same h =
    let z : n + 0 ≡ n = omega arith in
    let own : t.parts ≡ parts_at users n = same 0 (omega arith) ∙ ap (parts_at users) z in
    quiet-both users m (cond (in_use users n) (readings_by n (ways layout t.parts ts)) []) (readings_from users layout ts (n + 1) templates)
    (quiet-used users m n (ways layout t.parts ts) (subst (λ ps. in_use users n ≡ true → (ways layout ps ts ≡ []) ⊎ (word_count (parts_at users n) < m)) (sym own) (subst (Fewer users layout ts m) z (h 0 (omega arith)))))
    (quiet-from users layout ts m (n + 1) templates
    (λ k l. let y : n + suc k ≡ n + 1 + k = omega arith in same (suc k) (omega arith) ∙ ap (parts_at users) y)
    (λ k l. let y : n + suc k ≡ n + 1 + k = omega arith in subst (Fewer users layout ts m) y (h (suc k) (omega arith))))

lone-from : (users : List Template) (layout : Layout) (ts : List Token) (m n k : ℕ) (templates : List Template) → k < length templates → ((j : ℕ) → j < length templates → parts_of templates j ≡ parts_at users (n + j)) → in_use users (n + k) ≡ true → ways layout (parts_at users (n + k)) ts ≡ [] ∷ [] → word_count (parts_at users (n + k)) ≡ m → ((j : ℕ) → j < length templates → (j ≡ k → ⊥) → Fewer users layout ts m (n + j)) → Lone users m (record { pred = n + k; lengths = [] }) (readings_from users layout ts n templates)
lone-from users layout ts m n k [] l same u own count others = absurd (omega arith)
lone-from users layout ts m n zero (t ∷ templates) l same u own count others =
    let z : n + 0 ≡ n = omega arith in
    let parts : t.parts ≡ parts_at users n = same 0 (omega arith) ∙ ap (parts_at users) z in
    let here : cond (in_use users n) (readings_by n (ways layout t.parts ts)) [] ≡ readings_by n ([] ∷ []) =
    cond-true (in_use users n) _ _ (ap (in_use users) (sym z) ∙ u) ∙ ap (readings_by n) (ap (λ ps. ways layout ps ts) (parts ∙ ap (parts_at users) (sym z)) ∙ own) in
    let first : Lone users m (record { pred = n; lengths = [] }) (cond (in_use users n) (readings_by n (ways layout t.parts ts)) []) = subst (Lone users m (record { pred = n; lengths = [] })) (sym here) (lone-by users m n (ap (λ q. word_count (parts_at users q)) (sym z) ∙ count)) in
    subst (λ q. Lone users m (record { pred = q; lengths = [] }) (readings_from users layout ts n (t ∷ templates))) (sym z)
    (lone-first users m (record { pred = n; lengths = [] }) (cond (in_use users n) (readings_by n (ways layout t.parts ts)) []) (readings_from users layout ts (n + 1) templates) first
    (quiet-from users layout ts m (n + 1) templates
    (λ j h. let y : n + suc j ≡ n + 1 + j = omega arith in same (suc j) (omega arith) ∙ ap (parts_at users) y)
    (λ j h. let y : n + suc j ≡ n + 1 + j = omega arith in subst (Fewer users layout ts m) y (others (suc j) (omega arith) (λ (e : suc j ≡ 0). omega arith)))))
lone-from users layout ts m n (suc k) (t ∷ templates) l same u own count others =
    let z : n + 0 ≡ n = omega arith in
    let y : n + suc k ≡ n + 1 + k = omega arith in
    let parts : t.parts ≡ parts_at users n = same 0 (omega arith) ∙ ap (parts_at users) z in
    subst (λ q. Lone users m (record { pred = q; lengths = [] }) (readings_from users layout ts n (t ∷ templates))) (sym y)
    (lone-later users m (record { pred = n + 1 + k; lengths = [] }) (cond (in_use users n) (readings_by n (ways layout t.parts ts)) []) (readings_from users layout ts (n + 1) templates)
    (quiet-used users m n (ways layout t.parts ts) (subst (λ ps. in_use users n ≡ true → (ways layout ps ts ≡ []) ⊎ (word_count (parts_at users n) < m)) (sym parts) (subst (Fewer users layout ts m) z (others 0 (omega arith) (λ (e : 0 ≡ suc k). omega arith)))))
    (lone-from users layout ts m (n + 1) k templates (omega arith)
    (λ j h. let x : n + suc j ≡ n + 1 + j = omega arith in same (suc j) (omega arith) ∙ ap (parts_at users) x)
    (ap (in_use users) (sym y) ∙ u) (ap (λ q. ways layout (parts_at users q) ts) (sym y) ∙ own) (ap (λ q. word_count (parts_at users q)) (sym y) ∙ count)
    (λ j h ne. let x : n + suc j ≡ n + 1 + j = omega arith in subst (Fewer users layout ts m) x (others (suc j) (omega arith) (λ (e : suc j ≡ suc k). ne (omega arith))))))

-- so it is the single best
plain-ways : (layout : Layout) (parts : List Part) (ts : List Token) → is_marked ts ≡ false → ways layout parts ts ≡ cuts layout parts ts
plain-ways layout parts ts h = cond-false (is_marked ts) _ _ h

fewer : (layout : Layout) (others parts : List Part) (phrases : List (List Spelling)) (ts : List Token) → has_slot parts ≡ false → spellings layout ts ≡ said false parts phrases → ((skeleton others ≡ skeleton parts) → ⊥) → (cuts layout others ts ≡ []) ⊎ (word_count others < length ts)
fewer layout others parts phrases ts n e apart =
    ⊎_elim (λ s. slot-fewer layout others ts (cuts layout others ts) s (cuts_fit layout others ts))
    (λ s. ⊎_elim (λ none. inl none) (λ same. absurd (apart same)) (words-cuts layout others parts phrases ts s n e))
    (cases_Bool (has_slot others))

pub plain-best : (users : List Template) (pred : ℕ) (phrases : List (List Spelling)) (layout : Layout) (ts : List Token) → HasOneOfEach users → pred < 20 + length users → in_use users pred ≡ true → has_slot (parts_at users pred) ≡ false → is_marked ts ≡ false → spellings layout ts ≡ said false (parts_at users pred) phrases → best_of users layout ts ≡ best.One (record { pred = pred; lengths = [] })
unfolding best_of
plain-best users pred phrases layout ts each low used n plain e =
    let parts = parts_at users pred in
    let m = length ts in
    let lone = lone-from users layout ts m 0 pred (table_of users) (omega (arith, table-length users)) (λ j h. ap (parts_at users) (sym (zero-plus j))) (ap (in_use users) (zero-plus pred) ∙ used)
    (ap (λ q. ways layout (parts_at users q) ts) (zero-plus pred) ∙ plain-ways layout parts ts plain ∙ own-plain layout parts phrases ts n e)
    (ap (λ q. word_count (parts_at users q)) (zero-plus pred) ∙ own-count layout parts phrases ts n e)
    (λ j h ne. subst (Fewer users layout ts m) (sym (zero-plus j)) (λ u. subst (λ found. (found ≡ []) ⊎ (word_count (parts_at users j) < m)) (sym (plain-ways layout (parts_at users j) ts plain))
    (fewer layout (parts_at users j) parts phrases ts n e (λ same. ne (each j pred (omega (arith, table-length users)) low u used same))))) in
    let rs = readings_from users layout ts 0 (table_of users) in
    ap (λ rs. first_two (best_readings users rs)) (readings-is users layout ts)
    ∙ ap first_two (ap (λ k. filter (λ r. words_of users r == k) rs) lone.most ∙ lone.only)
    ∙ ap (λ q. best.One (record { pred = q; lengths = [] })) (zero-plus pred)
  where
    zero-plus : (n : ℕ) → 0 + n ≡ n
    zero-plus n = omega arith
