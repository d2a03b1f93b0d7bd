-- Words that tokens are to be, one at a time.
use Rattle.std.proofs.Common.{◌≡◌, ℕ, ◌+◌, ◌<◌, ◌≤◌, Bool, true, false, ◌&&◌, List, [], ◌∷◌, length, map, get_or, drop, sym, ap, ◌∙◌, arith, Bor}
use Rattle.std.proofs.lemmas.List.{drop_more, drop_all}
use Rattle.le_layout.specs.declared.layout.Layout.{Layout}
use Rattle.le_layout.specs.Words.{has_word, has_words}

abbrev pub now_of : List (Bor (List ℕ)) → List (List ℕ)
now_of words = map (λ w. w.now) words

-- the words that are left decide as all words do
abbrev pub Begun : Layout → ℕ → List (Bor (List ℕ)) → ℕ → Type 0
Begun l k words i = has_words l (k + i) (now_of (drop i words)) ≡ has_words l k (now_of words)

abbrev pub no_text : Bor (List ℕ)
no_text = record { ref_ptr = (0, 0); now = [] }

-- the first of the words that are left, and the others
pub words_step : (l : Layout) (k : ℕ) (words : List (Bor (List ℕ))) (i : ℕ) (b : Bool) → i < length words → b ≡ has_word l (k + i) (get_or words i no_text).now → Begun l k words i → (b && has_words l (k + (i + 1)) (now_of (drop (i + 1) words))) ≡ has_words l k (now_of words)
unfolding has_words
words_step l k words i b low e begun =
    let next : k + (i + 1) ≡ k + i + 1 = omega arith in
    ap (λ n. b && has_words l n (now_of (drop (i + 1) words))) next
    ∙ ap (λ c. c && has_words l (k + i + 1) (now_of (drop (i + 1) words))) e
    ∙ sym (ap (λ ws. has_words l (k + i) (now_of ws)) (drop_more words i no_text low))
    ∙ begun

-- no word is left
pub words_end : (l : Layout) (k : ℕ) (words : List (Bor (List ℕ))) (i : ℕ) → length words ≤ i → Begun l k words i → true ≡ has_words l k (now_of words)
unfolding has_words
words_end l k words i h begun = sym (ap (λ ws. has_words l (k + i) (now_of ws)) (drop_all i words h)) ∙ begun
