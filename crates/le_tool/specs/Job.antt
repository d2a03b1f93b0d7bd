-- The words of the command line: this project's profile.
use Rattle.std.specs.Prelude.{ℕ, ◌+◌, ◌<◌, ◌≤◌, ◌&&◌, if◌then◌else◌, List, [], ◌∷◌, Option, None, Some, is_none, IfSome, codes}
use Rattle.std.specs.Option.{option_map, option_and_then, unwrap_or}
use Rattle.std.specs.Str.{bytes_eq}
use Rattle.le_bundle.specs.Numbers.{count_up_to}
use Rattle.le_tool.specs.declared.jobs.Command.{Command}
use Rattle.le_tool.specs.declared.jobs.Command.TheVariants.{Answer, Explain, Certify, Clauses, Check}
use Rattle.le_tool.specs.declared.jobs.Options.{Options}
use Rattle.le_tool.specs.declared.jobs.Task.{Task}

abbrev pub with_query : Options → ℕ → Options
with_query o place = record { query = Some place; scenario = o.scenario; budget = o.budget; answers = o.answers }

abbrev pub with_scenario : Options → ℕ → Options
with_scenario o place = record { query = o.query; scenario = Some place; budget = o.budget; answers = o.answers }

abbrev pub with_budget : Options → ℕ → Options
with_budget o n = record { query = o.query; scenario = o.scenario; budget = Some n; answers = o.answers }

abbrev pub with_answers : Options → ℕ → Options
with_answers o n = record { query = o.query; scenario = o.scenario; budget = o.budget; answers = Some n }

-- the options with one more: its name, its value, and the value's place among the words; none where there is no such option, it is there already, or its value isn't one; a budget is at most 100,000, and at most 1,000 answers are asked for
unfoldable pub with_option : Options → List ℕ → ℕ → List ℕ → Option Options
with_option o name place value =
    if bytes_eq name (codes "--query") && is_none o.query then Some (with_query o place)
    else (if bytes_eq name (codes "--scenario") && is_none o.scenario then Some (with_scenario o place)
    else (if bytes_eq name (codes "--budget") && is_none o.budget then option_map (with_budget o) (count_up_to 100000 value)
    else (if bytes_eq name (codes "--answers") && is_none o.answers then option_map (with_answers o) (count_up_to 1000 value)
    else None)))

-- the options with those of some words, which are pairs of a name and a value and stand from this place on
abbrev pub options_from : ℕ → Options → List (List ℕ) → Option Options
options_from at o [] = Some o
options_from at o (name ∷ []) = None
options_from at o (name ∷ value ∷ words) = option_and_then (λ p. options_from (at + 2) p words) (with_option o name (at + 1) value)

abbrev pub no_options : Options
no_options = record { query = None; scenario = None; budget = None; answers = None }

-- the task of a command that searches, with these options, where the query has a name; the budget is 100,000 and 100 answers are asked for where the words don't say
abbrev pub search_task : Command → Options → Option Task
search_task command o = option_map (λ place. record { command = command; query = Some place; scenario = o.scenario; budget = unwrap_or o.budget 100000; answers = unwrap_or o.answers 100 }) o.query

-- the command of a word that asks for a search
abbrev pub search_command : List ℕ → Option Command
search_command word =
    if bytes_eq word (codes "answer") then Some Answer
    else (if bytes_eq word (codes "explain") then Some Explain
    else (if bytes_eq word (codes "certify") then Some Certify else None))

-- the command of a word that stands alone
abbrev pub lone_command : List ℕ → Option Command
lone_command word = if bytes_eq word (codes "clauses") then Some Clauses else (if bytes_eq word (codes "check") then Some Check else None)

-- the command of a word, where no word follows it
abbrev pub single_command : List ℕ → List (List ℕ) → Option Command
single_command word [] = lone_command word
single_command word (next ∷ words) = None

-- the task of a command without options
abbrev pub plain_task : Command → Task
plain_task command = record { command = command; query = None; scenario = None; budget = 100000; answers = 100 }

-- the task of this word with the words that follow it, where it asks for this search, or for none
abbrev pub task_of : Option Command → List ℕ → List (List ℕ) → Option Task
task_of (Some command) word words = option_and_then (search_task command) (options_from 1 no_options words)
task_of None word words = option_map plain_task (single_command word words)

-- the task that a list of words asks for: `answer`, `explain` or `certify` and pairs of an option's name and its value, in any order and each name at most once, or `clauses` or `check` alone
abbrev pub job_of : List (List ℕ) → Option Task
job_of [] = None
job_of (word ∷ words) = task_of (search_command word) word words

-- the places of names are below this one, and the numbers are in their ranges
pub record AreOptions (count : ℕ) (o : Options) : Type 0 where
  pub query : IfSome o.query (λ place. place < count)
  pub scenario : IfSome o.scenario (λ place. place < count)
  pub budget : IfSome o.budget (λ n. (1 ≤ n) × (n ≤ 100000))
  pub answers : IfSome o.answers (λ n. (1 ≤ n) × (n ≤ 1000))
