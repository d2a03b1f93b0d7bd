-- The grammar of a bundle, which is a document with derivations of its answers, by cases on its lines: this project's profile.
use Rattle.std.specs.Prelude.{ℕ, zero, suc, ◌+◌, ◌&&◌, ◌||◌, Bool, false, nat_eq, nat_lt, if◌then◌else◌, List, [], ◌∷◌, ◌++◌, length, drop, Option, None, Some, Result, Ok, Err, codes, decimal}
use Rattle.std.specs.List.{starts_with}
use Rattle.std.specs.Option.{option_map, option_and_then, option_map_or}
use Rattle.std.specs.Str.{bytes_eq, is_utf8}
use Rattle.le_proofs.specs.declared.derivation.Derivation.{Derivation}
use Rattle.le_proofs.specs.declared.next.Next.TheVariants.{Done, Spent}
use Rattle.le_proofs.specs.declared.node.Node.{Node}
use Rattle.le_prooftext.specs.Reading.{count_of, node_of}
use Rattle.le_bundle.specs.Endings.{end_words, stopped_words}
use Rattle.le_bundle.specs.Lines.{Line, whole, cut, lines_of, Read, then_read, next_line}
use Rattle.le_bundle.specs.Numbers.{number_up_to, is_line_number}

-- a bundle: the document part, the names and limits of the search, the derivations of its answers, and the last line
pub record Bundle : Type 0 where
  pub document : List ℕ
  pub query : List ℕ
  pub scenario : Option (List ℕ)
  pub budget : ℕ
  pub most : ℕ
  pub derivations : List Derivation
  pub ending : List ℕ

-- ---- what a line says

-- what a line says after these words, where it begins with them
abbrev pub after_words : List ℕ → List ℕ → Option (List ℕ)
after_words words line = if starts_with nat_eq line words then Some (drop (length words) line) else None

-- a name: one or more characters of UTF-8
abbrev pub name_of : List ℕ → Option (List ℕ)
name_of text = if nat_lt 0 (length text) && is_utf8 text then Some text else None

-- the name after these words
unfoldable pub name_in : List ℕ → List ℕ → Option (List ℕ)
name_in words line = option_and_then name_of (after_words words line)

-- the number from 1 to this one after these words
unfoldable pub number_in : List ℕ → ℕ → List ℕ → Option ℕ
number_in words most line = option_and_then (number_up_to most) (after_words words line)

-- whether a line is these words and then the number of a line
unfoldable pub is_numbered : List ℕ → List ℕ → Bool
is_numbered words line = option_map_or is_line_number (after_words words line) false

-- whether a line says that a search ended at a line of the document
unfoldable pub is_at_line : List ℕ → Bool
is_at_line line = is_numbered (codes "floundered at line ") line || is_numbered (codes "out of range at line ") line

-- whether a line says how a search with these limits ended
unfoldable pub is_ending : ℕ → ℕ → List ℕ → Bool
is_ending budget most line =
    (bytes_eq line (end_words budget Done) || (bytes_eq line (stopped_words most) || bytes_eq line (end_words budget Spent))) || is_at_line line

abbrev pub ending_in : ℕ → ℕ → List ℕ → Option (List ℕ)
ending_in budget most line = if is_ending budget most line then Some line else None

-- whether the next line is whole and begins with these words, or is these
abbrev pub begins : List ℕ → List Line → Bool
begins words (whole line ∷ lines) = starts_with nat_eq line words
begins words lines = false

abbrev pub is_next : List ℕ → List Line → Bool
is_next words (whole line ∷ lines) = bytes_eq line words
is_next words lines = false

-- ---- the document part

-- the document part and what follows its marker
pub record Parted : Type 0 where
  pub document : List ℕ
  pub number : ℕ
  pub lines : List Line

-- the line that divides the document from the certificates
abbrev pub marker : List ℕ
marker = codes "=== certificates ==="

-- a line before a document part
abbrev pub with_line : List ℕ → Result Parted ℕ → Result Parted ℕ
with_line line (Ok p) = Ok (record { document = line ++ (10 ∷ p.document); number = p.number; lines = p.lines })
with_line line (Err n) = Err n

-- The lines before the first that is the marker, where the next line has this number. Where no line is the marker, the line after the last doesn't fit; a marker that lacks its LF doesn't fit itself.
abbrev pub parted : ℕ → List Line → Result Parted ℕ
parted n [] = Err n
parted n (cut line ∷ lines) = Err (if bytes_eq line marker then n else n + 1)
parted n (whole line ∷ lines) =
    if bytes_eq line marker then Ok (record { document = []; number = n + 1; lines = lines }) else with_line line (parted (n + 1) lines)

-- ---- the certificates

-- the scenario's name, where a line begins as its line does
unfoldable pub scenario_read : ℕ → List Line → Result (Read (Option (List ℕ))) ℕ
scenario_read n lines =
    if begins (codes "scenario ") lines then next_line (λ line. option_map Some (name_in (codes "scenario ") line)) n lines
    else Ok (record { value = None; number = n; lines = lines })

-- a node before nodes that were read
abbrev pub with_node : Node → Result (Read (List Node)) ℕ → Result (Read (List Node)) ℕ
with_node node (Err n) = Err n
with_node node (Ok r) = Ok (record { value = node ∷ r.value; number = r.number; lines = r.lines })

-- so many nodes, one from each line
abbrev pub nodes_read : ℕ → ℕ → List Line → Result (Read (List Node)) ℕ
nodes_read zero n lines = Ok (record { value = []; number = n; lines = lines })
nodes_read (suc count) n lines = then_read (next_line node_of n lines) (λ node m rest. with_node node (nodes_read count m rest))

-- a derivation: a line with the number of its nodes, and the nodes
unfoldable pub derivation_read : ℕ → List Line → Result (Read (List Node)) ℕ
derivation_read n lines = then_read (next_line count_of n lines) nodes_read

-- a derivation before others
abbrev pub with_derivation : List Node → Result (Read (List Derivation)) ℕ → Result (Read (List Derivation)) ℕ
with_derivation nodes (Err m) = Err m
with_derivation nodes (Ok r) = Ok (record { value = record { nodes = nodes } ∷ r.value; number = r.number; lines = r.lines })

-- the words of the line above an answer of this number
abbrev pub answer_words : ℕ → List ℕ
answer_words k = codes "answer " ++ decimal k

-- the derivations of at most so many answers, the next of which has the number k: the line of its number, and its derivation
abbrev pub answers_read : ℕ → ℕ → ℕ → List Line → Result (Read (List Derivation)) ℕ
answers_read zero k n lines = Ok (record { value = []; number = n; lines = lines })
answers_read (suc left) k n lines =
    if is_next (answer_words k) lines
    then then_read (derivation_read (n + 1) (drop 1 lines)) (λ nodes m rest. with_derivation nodes (answers_read left (k + 1) m rest))
    else Ok (record { value = []; number = n; lines = lines })

-- nothing follows the last line
abbrev pub at_end : {X : Type 0} → X → ℕ → List Line → Result X ℕ
at_end x n [] = Ok x
at_end x n (line ∷ lines) = Err n

-- the last line
unfoldable pub ending_read : ℕ → ℕ → ℕ → List Line → Result (List ℕ) ℕ
ending_read budget most n lines = then_read (next_line (ending_in budget most) n lines) at_end

-- what is asked: the names and limits of a search
pub record Asked : Type 0 where
  pub query : List ℕ
  pub scenario : Option (List ℕ)
  pub budget : ℕ
  pub most : ℕ

-- what is asked, by its lines in their order
unfoldable pub asked_read : ℕ → List Line → Result (Read Asked) ℕ
asked_read n lines =
    then_read (next_line (name_in (codes "query ")) n lines) (λ query n1 lines1.
    then_read (scenario_read n1 lines1) (λ scenario n2 lines2.
    then_read (next_line (number_in (codes "budget ") 1000000) n2 lines2) (λ budget n3 lines3.
    then_read (next_line (number_in (codes "answers ") 1000) n3 lines3) (λ most n4 lines4.
    Ok (record { value = record { query = query; scenario = scenario; budget = budget; most = most }; number = n4; lines = lines4 })))))

abbrev pub bundle_with : List ℕ → Asked → List Derivation → Result (List ℕ) ℕ → Result Bundle ℕ
bundle_with document asked derivations (Err n) = Err n
bundle_with document asked derivations (Ok ending) =
    Ok (record { document = document; query = asked.query; scenario = asked.scenario; budget = asked.budget; most = asked.most; derivations = derivations; ending = ending })

-- the bundle of a document part and the lines that follow its marker
abbrev pub bundle_after : Result Parted ℕ → Result Bundle ℕ
bundle_after (Err n) = Err n
bundle_after (Ok p) =
    then_read (asked_read p.number p.lines) (λ asked n1 lines1.
    then_read (answers_read asked.most 1 n1 lines1) (λ derivations n2 lines2.
    bundle_with p.document asked derivations (ending_read asked.budget asked.most n2 lines2)))

-- The bundle that some bytes are: the document part, the marker, the names and limits, the derivations of at most so many answers in order, and one last line. Or the number of the first line that doesn't fit, counted from 1.
unfoldable pub bundle_of : List ℕ → Result Bundle ℕ
bundle_of bytes = bundle_after (parted 1 (lines_of bytes))
