-- What is written word by word is the line of the words.
use Rattle.std.proofs.Common.{◌≡◌, ℕ, ◌+◌, ◌<◌, List, [], ◌∷◌, ◌++◌, map, take, length, get_or, refl, sym, ap, ◌∙◌, append_assoc, append-nil, Result, Ok, Err, OnOk}
use Rattle.std.proofs.lemmas.List.{map-append, take_more}
use Rattle.std.specs.List.{join_with_byte}
use Rattle.le_terms.specs.declared.term.Sym.{Sym}
use Rattle.le_terms.specs.Tree.{Tree}
use Rattle.le_proofs.specs.declared.node.Node.{Node}
use Rattle.le_prooftext.specs.declared.word.Word.{Word}
use Rattle.le_prooftext.specs.declared.word.Word.TheVariants as word
use Rattle.le_prooftext.specs.Lines.{term_words, terms_words, words_line, node_line, nodes_text}
use Rattle.le_prooftext.specs.Writing.{spaced}
use Rattle.le_prooftext.specs.Words.{word_text}

-- words after a first one
pub join-spaced : (w : Word) (ws : List Word) → join_with_byte 32 (map word_text (w ∷ ws)) ≡ word_text w ++ spaced ws
join-spaced w [] = sym (append-nil (word_text w))
join-spaced w (v ∷ vs) = ap (λ line. word_text w ++ (32 ∷ line)) (join-spaced v vs)

pub spaced-append : (ws vs : List Word) → spaced (ws ++ vs) ≡ spaced ws ++ spaced vs
spaced-append [] vs = refl
spaced-append (w ∷ ws) vs =
    ap (λ line. 32 ∷ (word_text w ++ line)) (spaced-append ws vs) ∙ ap (λ line. 32 ∷ line) (sym (append_assoc (word_text w) (spaced ws) (spaced vs)))

-- the words of the symbols so far, with one more
pub symbols_more : (symbols : List Sym) (i : ℕ) (d : Sym) (start old new : List ℕ) → i < length symbols → old ≡ start ++ spaced (map (λ x. word.Symbol x) (take i symbols)) → new ≡ old ++ spaced (word.Symbol (get_or symbols i d) ∷ []) → new ≡ start ++ spaced (map (λ x. word.Symbol x) (take (i + 1) symbols))
symbols_more symbols i d start old new within before pushed =
    let s = get_or symbols i d in
    pushed
    ∙ (ap (λ text. text ++ spaced (word.Symbol s ∷ [])) before
    ∙ (append_assoc start _ _
    ∙ ap (λ text. start ++ text)
    (sym (spaced-append (map (λ x. word.Symbol x) (take i symbols)) (word.Symbol s ∷ []))
    ∙ ap spaced
    (sym (map-append (λ x. word.Symbol x) (take i symbols) (s ∷ []))
    ∙ ap (map (λ x. word.Symbol x)) (sym (take_more symbols i d within))))))

pub terms_words-append : (trees others : List Tree) → terms_words (trees ++ others) ≡ terms_words trees ++ terms_words others
terms_words-append [] others = refl
terms_words-append (tree ∷ trees) others = ap (λ ws. term_words tree ++ ws) (terms_words-append trees others) ∙ sym (append_assoc (term_words tree) (terms_words trees) (terms_words others))

pub terms_more : (trees : List Tree) (i : ℕ) (tree : Tree) (start old new : List ℕ) → i < length trees → tree ≡ get_or trees i tree → old ≡ start ++ spaced (terms_words (take i trees)) → new ≡ old ++ spaced (term_words tree) → new ≡ start ++ spaced (terms_words (take (i + 1) trees))
terms_more trees i tree start old new within at before pushed =
    pushed
    ∙ (ap (λ text. text ++ spaced (term_words tree)) before
    ∙ (append_assoc start _ _
    ∙ ap (λ text. start ++ text)
    (sym (spaced-append (terms_words (take i trees)) (term_words tree))
    ∙ ap spaced
    (ap (λ ws. terms_words (take i trees) ++ ws) (sym (append-nil (term_words tree)))
    ∙ (sym (terms_words-append (take i trees) (tree ∷ []))
    ∙ ap terms_words (ap (λ x. take i trees ++ (x ∷ [])) at ∙ sym (take_more trees i tree within)))))))

pub nodes_text-append : (nodes others : List Node) → nodes_text (nodes ++ others) ≡ nodes_text nodes ++ nodes_text others
nodes_text-append [] others = refl
nodes_text-append (node ∷ nodes) others =
    ap (λ text. node_line node ++ (10 ∷ text)) (nodes_text-append nodes others) ∙ sym (append_assoc (node_line node) (10 ∷ nodes_text nodes) (nodes_text others))

pub nodes_more : (nodes : List Node) (i : ℕ) (node : Node) (start old new : List ℕ) → i < length nodes → node ≡ get_or nodes i node → old ≡ start ++ nodes_text (take i nodes) → new ≡ old ++ (node_line node ++ (10 ∷ [])) → new ≡ start ++ nodes_text (take (i + 1) nodes)
nodes_more nodes i node start old new within at before pushed =
    pushed
    ∙ (ap (λ text. text ++ (node_line node ++ (10 ∷ []))) before
    ∙ (append_assoc start _ _
    ∙ ap (λ text. start ++ text)
    (sym (nodes_text-append (take i nodes) (node ∷ []))
    ∙ ap nodes_text (ap (λ x. take i nodes ++ (x ∷ [])) at ∙ sym (take_more nodes i node within)))))

-- the same of the text after a call that may fail
pub onto : {X E : Type 0} (r : Result X E) (ws vs : List Word) (old between new : List ℕ) → between ≡ old ++ spaced ws → OnOk r (new ≡ between ++ spaced vs) → OnOk r (new ≡ old ++ spaced (ws ++ vs))
onto (Ok x) ws vs old between new before then = then ∙ (ap (λ text. text ++ spaced vs) before ∙ (append_assoc old (spaced ws) (spaced vs) ∙ ap (λ text. old ++ text) (sym (spaced-append ws vs))))
onto (Err e) ws vs old between new before then = tt

pub line_written : {X E : Type 0} (r : Result X E) (w : Word) (ws : List Word) (old between new : List ℕ) → between ≡ old ++ word_text w → OnOk r (new ≡ between ++ spaced ws) → OnOk r (new ≡ old ++ words_line (w ∷ ws))
line_written (Ok x) w ws old between new before then = then ∙ (ap (λ text. text ++ spaced ws) before ∙ (append_assoc old (word_text w) (spaced ws) ∙ ap (λ text. old ++ text) (sym (join-spaced w ws))))
line_written (Err e) w ws old between new before then = tt

pub three_written : {X E : Type 0} (r : Result X E) (a b c old first second new : List ℕ) → first ≡ old ++ a → second ≡ first ++ b → OnOk r (new ≡ second ++ c) → OnOk r (new ≡ old ++ ((a ++ b) ++ c))
three_written (Ok x) a b c old first second new is then end = end ∙ (ap (λ text. text ++ c) (then ∙ (ap (λ text. text ++ b) is ∙ append_assoc old a b)) ∙ append_assoc old (a ++ b) c)
three_written (Err e) a b c old first second new is then end = tt
