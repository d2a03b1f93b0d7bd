-- What the table keeps, and what its calls read from it.
use Rattle.std.proofs.Common.{◌≡◌, ℕ, ◌+◌, ◌-◌, ◌<◌, ◌≤◌, Bool, true, false, cond, not, ◌||◌, nat_le, List, [], ◌∷◌, ◌++◌, length, map, get_or, slice_get, Option, None, Some, Ok, Err, sym, refl, ap, ◌∙◌, arith, length-append}
use Rattle.std.proofs.lemmas.List.{map-append, length-map, get_or-map}
use Rattle.std.proofs.lemmas.List.{get_or-append_right}
use Rattle.std.proofs.lemmas.List.Folds.{list_any-append}
use Rattle.std.proofs.lemmas.List.{get_or_append_left}
use Rattle.std.proofs.lemmas.Option.{slice_get_read}
use Rattle.std.proofs.lemmas.Bool.Decides.{nat_tests}
use Rattle.std.specs.Cmp.Lexicographic.{bytes_decides}
use Rattle.std.specs.List.{list_any}
use Rattle.std.specs.Option.{option_map}
use Rattle.std.specs.Str.{bytes_eq}
use Rattle.std.specs.Char.{to_ascii_lowercase}
use Rattle.le_base.specs.declared.code.Code.TheVariants.{BadTemplate, SameTemplate, TooMany}
use Rattle.le_layout.specs.declared.span.Span.{Span}
use Rattle.le_base.specs.Stop.{refusal_at}
use Rattle.le_layout.specs.declared.layout.Layout.{Layout}
use Rattle.le_templates.specs.declared.part.Part.{Part}
use Rattle.le_templates.specs.declared.part.Part.TheVariants.{Word, Slot}
use Rattle.le_templates.specs.declared.part.Template.{Template}
use Rattle.le_templates.specs.Form.{template_of}
use Rattle.le_templates.specs.Skeletons.{key_of, slot_ends, last_word}
use Rattle.le_templates.specs.Table.{template, predefined, table_of, is_declared, in_use, ends_slot, first_token, declared_at, declaration}
use Rattle.le_templates.specs.Walks.{has, entered, part_entered, parts_entered, all_entered, keys_of}
use Rattle.le_templates.proofs.TextLemmas.{any-map}

pub length-predefined : length predefined ≡ 20
unfolding predefined
length-predefined = refl

-- ---- a template by its number

pub get_ready : (ready users : List Template) (pred : ℕ) (t : Template) → ready ≡ predefined → pred < 20 → t ≡ get_or ready pred t → slice_get (table_of users) pred ≡ Some t
get_ready ready users pred t given low at =
    slice_get_read (table_of users) (length (table_of users)) pred t refl (omega (arith, length-append predefined users, length-predefined))
    (at ∙ ap (λ ts. get_or ts pred t) given ∙ sym (get_or_append_left predefined users t pred (omega (arith, length-predefined))))

pub get_user : (inner users : List Template) (pred : ℕ) (t : Template) → inner ≡ users → 20 ≤ pred → pred < 20 + length users → t ≡ get_or inner (pred - 20) t → slice_get (table_of users) pred ≡ Some t
get_user inner users pred t same low high at =
    slice_get_read (table_of users) (length (table_of users)) pred t refl (omega (arith, length-append predefined users, length-predefined))
    (at ∙ ap (λ ts. get_or ts (pred - 20) t) same ∙ sym (get_or-append_right predefined users 20 pred t length-predefined low))

-- ---- skeletons

pub declared_is : (inner users : List Template) (keys : List (List ℕ)) (parts : List Part) (text : List ℕ) (b : Bool) → keys ≡ keys_of inner → inner ≡ users → text ≡ key_of parts → b ≡ has keys text → is_declared users parts ≡ b
declared_is inner users keys parts text b own same key is =
    sym (is ∙ ap (λ ks. has ks text) own ∙ ap (λ k. has (keys_of inner) k) key
    ∙ any-map (bytes_eq (key_of parts)) (λ t. key_of t.parts) inner
    ∙ ap (λ us. is_declared us parts) same)

pub keys-push : (users : List Template) (t : Template) (keys new : List (List ℕ)) (key : List ℕ) → keys ≡ keys_of users → key ≡ key_of t.parts → has keys key ≡ false → new ≡ entered keys key → new ≡ keys_of (users ++ t ∷ [])
keys-push users t keys new key own is fresh e =
    e ∙ ap (λ b. cond b keys (keys ++ key ∷ [])) fresh
    ∙ ap (λ ks. ks ++ key ∷ []) own ∙ ap (λ k. keys_of users ++ k ∷ []) is
    ∙ sym (map-append (λ u. key_of u.parts) users (t ∷ []))

ready_key : {K : Type 0} (f : K → List ℕ) (keys : List K) (pred : ℕ) (k : K) → map f keys ≡ keys_of predefined → pred < 20 → k ≡ get_or keys pred k → f k ≡ key_of (get_or predefined pred (template [])).parts
ready_key f keys pred k given low at =
    let long : length keys ≡ 20 = sym (length-map keys f) ∙ ap length given ∙ length-map predefined (λ u. key_of u.parts) ∙ length-predefined in
    ap f at
    ∙ sym (get_or-map f keys pred k (f k) (omega (arith, long)))
    ∙ ap (λ ks. get_or ks pred (f k)) given
    ∙ get_or-map (λ u. key_of u.parts) predefined pred (template []) (f k) (omega (arith, length-predefined))

pub length-ready : {K : Type 0} (f : K → List ℕ) (keys : List K) → map f keys ≡ keys_of predefined → length keys ≡ 20
length-ready f keys given = sym (length-map keys f) ∙ ap length given ∙ length-map predefined (λ u. key_of u.parts) ∙ length-predefined

not_20 : (n : ℕ) → n < 20 → nat_le 20 n ≡ false
not_20 n h = grind (arith, nat_tests)

pub in_use_is : {K : Type 0} (f : K → List ℕ) (ready : List K) (pred : ℕ) (k : K) (inner users : List Template) (keys : List (List ℕ)) (b : Bool) → map f ready ≡ keys_of predefined → pred < 20 → k ≡ get_or ready pred k → keys ≡ keys_of inner → inner ≡ users → b ≡ has keys (f k) → not b ≡ in_use users pred
in_use_is f ready pred k inner users keys b given low at own same is =
    sym (ap (λ c. c || not (is_declared users (get_or predefined pred (template [])).parts)) (not_20 pred low)
    ∙ ap not (declared_is inner users keys (get_or predefined pred (template [])).parts (f k) b own same (ready_key f ready pred k given low at) is))

-- ---- last words

or_assoc : (a b c : Bool) → ((a || b) || c) ≡ (a || (b || c))
or_assoc true b c = refl
or_assoc false b c = refl

or_false : (a : Bool) → a ≡ (a || false)
or_false true = refl
or_false false = refl

or_true : (a b : Bool) → a ≡ true → a ≡ (a || b)
or_true a b e = e ∙ sym (ap (λ c. c || b) e)

has_entered : (texts : List (List ℕ)) (text q : List ℕ) → has (entered texts text) q ≡ (has texts q || bytes_eq q text)
has_entered texts text q = by (has texts text) refl
  where
    there : (c : Bool) → bytes_eq q text ≡ c → has texts text ≡ true → has texts q ≡ (has texts q || c)
    there true same e = or_true (has texts q) true (ap (λ x. has texts x) ((bytes_decides q text).0 same) ∙ e)
    there false same e = or_false (has texts q)

    by : (b : Bool) → has texts text ≡ b → has (entered texts text) q ≡ (has texts q || bytes_eq q text)
    by true e = ap (λ c. has (cond c texts (texts ++ text ∷ [])) q) e ∙ there (bytes_eq q text) refl e
    by false e = ap (λ c. has (cond c texts (texts ++ text ∷ [])) q) e ∙ list_any-append (bytes_eq q) texts (text ∷ []) ∙ ap (λ c. has texts q || c) (sym (or_false (bytes_eq q text)))

abbrev low : List ℕ → List ℕ
low w = map to_ascii_lowercase w

has_part : (words : List (List ℕ)) (part : Part) (w : List ℕ) → has (part_entered words part) (low w) ≡ (has words (low w) || slot_ends w part)
has_part words (Word v) w = or_false (has words (low w))
has_part words (Slot s) w = has_entered words (low (last_word s)) (low w)

has_parts : (words : List (List ℕ)) (parts : List Part) (w : List ℕ) → has (parts_entered words parts) (low w) ≡ (has words (low w) || list_any (slot_ends w) parts)
has_parts words [] w = or_false (has words (low w))
has_parts words (p ∷ ps) w =
    has_parts (part_entered words p) ps w
    ∙ ap (λ b. b || list_any (slot_ends w) ps) (has_part words p w)
    ∙ or_assoc (has words (low w)) (slot_ends w p) (list_any (slot_ends w) ps)

has_all : (words : List (List ℕ)) (users : List Template) (w : List ℕ) → has (all_entered words users) (low w) ≡ (has words (low w) || ends_slot users w)
has_all words [] w = or_false (has words (low w))
has_all words (t ∷ ts) w =
    has_all (parts_entered words t.parts) ts w
    ∙ ap (λ b. b || ends_slot ts w) (has_parts words t.parts w)
    ∙ or_assoc (has words (low w)) (list_any (slot_ends w) t.parts) (ends_slot ts w)

pub ends_is : (inner users : List Template) (words : List (List ℕ)) (w : List ℕ) → words ≡ all_entered [] inner → inner ≡ users → has words (low w) ≡ ends_slot users w
ends_is inner users words w last same =
    ap (λ ws. has ws (low w)) last ∙ has_all [] inner w ∙ ap (λ us. ends_slot us w) same

all-push : (words : List (List ℕ)) (users : List Template) (t : Template) → all_entered words (users ++ t ∷ []) ≡ parts_entered (all_entered words users) t.parts
all-push words [] t = refl
all-push words (u ∷ us) t = all-push (parts_entered words u.parts) us t

pub words-push : (users : List Template) (t : Template) (words new : List (List ℕ)) → words ≡ all_entered [] users → new ≡ parts_entered words t.parts → new ≡ all_entered [] (users ++ t ∷ [])
words-push users t words new last e = e ∙ ap (λ ws. parts_entered ws t.parts) last ∙ sym (all-push [] users t)

-- ---- declarations

abbrev pub option_map_parts : Option Template → Option (List Part)
option_map_parts o = option_map (λ t. t.parts) o

pub declared_none : (users : List Template) (l : Layout) (span : Span) (o : Option Template) → option_map_parts o ≡ template_of l span → o ≡ None → declaration users l span ≡ Err (refusal_at BadTemplate (first_token l span).line (first_token l span).column)
unfolding declaration
declared_none users l span o e none = ap (declared_at users (first_token l span)) (sym e ∙ ap option_map_parts none)

some_declared : (users : List Template) (l : Layout) (span : Span) (o : Option Template) (t : Template) (b : Bool) → option_map_parts o ≡ template_of l span → o ≡ Some t → is_declared users t.parts ≡ b
    → declaration users l span ≡ cond b (Err (refusal_at SameTemplate (first_token l span).line (first_token l span).column)) (cond (nat_le 1000 (length users)) (Err (refusal_at TooMany (first_token l span).line (first_token l span).column)) (Ok (template t.parts)))
unfolding declaration
some_declared users l span o t b e some is =
    ap (declared_at users (first_token l span)) (sym e ∙ ap option_map_parts some)
    ∙ ap (λ c. cond c (Err (refusal_at SameTemplate (first_token l span).line (first_token l span).column)) (cond (nat_le 1000 (length users)) (Err (refusal_at TooMany (first_token l span).line (first_token l span).column)) (Ok (template t.parts)))) is

pub declared_same : (users : List Template) (l : Layout) (span : Span) (o : Option Template) (t : Template) (b : Bool) → option_map_parts o ≡ template_of l span → o ≡ Some t → is_declared users t.parts ≡ b → b ≡ true → declaration users l span ≡ Err (refusal_at SameTemplate (first_token l span).line (first_token l span).column)
declared_same users l span o t b e some is yes_ = some_declared users l span o t true e some (is ∙ yes_)

many : (n : ℕ) → 1000 ≤ n → nat_le 1000 n ≡ true
many n h = grind (arith, nat_tests)

few : (n : ℕ) → n < 1000 → nat_le 1000 n ≡ false
few n h = grind (arith, nat_tests)

pub declared_many : (users : List Template) (l : Layout) (span : Span) (o : Option Template) (t : Template) (b : Bool) → option_map_parts o ≡ template_of l span → o ≡ Some t → is_declared users t.parts ≡ b → b ≡ false → 1000 ≤ length users → declaration users l span ≡ Err (refusal_at TooMany (first_token l span).line (first_token l span).column)
declared_many users l span o t b e some is no_ high =
    some_declared users l span o t false e some (is ∙ no_)
    ∙ ap (λ c. cond c (Err (refusal_at TooMany (first_token l span).line (first_token l span).column)) (Ok (template t.parts))) (many (length users) high)

pub declared_new : (users : List Template) (l : Layout) (span : Span) (o : Option Template) (t : Template) (b : Bool) → option_map_parts o ≡ template_of l span → o ≡ Some t → is_declared users t.parts ≡ b → b ≡ false → length users < 1000 → declaration users l span ≡ Ok (template t.parts)
declared_new users l span o t b e some is no_ low_ =
    some_declared users l span o t false e some (is ∙ no_)
    ∙ ap (λ c. cond c (Err (refusal_at TooMany (first_token l span).line (first_token l span).column)) (Ok (template t.parts))) (few (length users) low_)
