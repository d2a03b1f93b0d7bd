-- The limits of a search that a command line may ask for.
use Rattle.std.proofs.Common.{◌≡◌, ℕ, ◌+◌, ◌≤◌, ◌==◌, ◌&&◌, Bool, true, false, cond, nat_le, List, [], ◌∷◌, slice_index, Option, None, Some, IfSome, is_none, ℤ, pos, negsuc, codes, ⊎_elim, refl, subst, arith}
use Rattle.std.proofs.lemmas.Bool.{cases_Bool, and_parts, leb-true}
use Rattle.std.proofs.lemmas.Option.{cond_some}
use Rattle.std.specs.Option.{option_map, option_and_then, unwrap_or}
use Rattle.std.specs.Str.{bytes_eq}
use Rattle.le_values.specs.Numbers.{number_of}
use Rattle.le_bundle.specs.Numbers.{from_one, count_up_to}
use Rattle.le_tool.specs.declared.jobs.Command.{Command}
use Rattle.le_tool.specs.declared.jobs.Options.{Options}
use Rattle.le_tool.specs.declared.jobs.Task.{Task}
use Rattle.le_tool.specs.Job.{with_query, with_scenario, with_budget, with_answers, with_option, options_from, no_options, search_task, search_command, single_command, plain_task, task_of, job_of}

-- a number from 1 to this one
abbrev pub Within : ℕ → ℕ → Type 0
Within most n = (1 ≤ n) × (n ≤ most)

from_one_within : (most : ℕ) (o : Option ℤ) (n : ℕ) → from_one most o ≡ Some n → Within most n
from_one_within most None n e = absurd (cc e)
from_one_within most (Some (negsuc m)) n e = absurd (cc e)
from_one_within most (Some (pos m)) n e =
    let found = cond_some (nat_le 1 m && nat_le m most) m n e in
    let parts = and_parts (nat_le 1 m) (nat_le m most) found.0 in
    subst (Within most) found.1 (leb-true 1 m parts.0, leb-true m most parts.1)

count_within : (most : ℕ) (word : List ℕ) (n : ℕ) → count_up_to most word ≡ Some n → Within most n
unfolding count_up_to
count_within most word n e =
    ⊎_elim (λ lead. absurd (cc (rw lead at e)))
    (λ other. from_one_within most (number_of word) n (rw other at e))
    (cases_Bool (slice_index word 0 == 48))

-- the limits of options
abbrev AreWithin : Options → Type 0
AreWithin o = IfSome o.budget (Within 100000) × IfSome o.answers (Within 1000)

either : (b : Bool) (x y : Option Options) → IfSome x AreWithin → IfSome y AreWithin → IfSome (cond b x y) AreWithin
either true x y h k = h
either false x y h k = k

budget_within : (o : Options) (r : Option ℕ) → ((n : ℕ) → r ≡ Some n → Within 100000 n) → AreWithin o → IfSome (option_map (with_budget o) r) AreWithin
budget_within o None f h = tt
budget_within o (Some n) f h = (f n refl, h.1)

answers_within : (o : Options) (r : Option ℕ) → ((n : ℕ) → r ≡ Some n → Within 1000 n) → AreWithin o → IfSome (option_map (with_answers o) r) AreWithin
answers_within o None f h = tt
answers_within o (Some n) f h = (h.0, f n refl)

option_within : (o : Options) (name : List ℕ) (place : ℕ) (value : List ℕ) → AreWithin o → IfSome (with_option o name place value) AreWithin
unfolding with_option
option_within o name place value h =
    let answers : Option Options = cond (bytes_eq name (codes "--answers") && is_none o.answers) (option_map (with_answers o) (count_up_to 1000 value)) None in
    let budget : Option Options = cond (bytes_eq name (codes "--budget") && is_none o.budget) (option_map (with_budget o) (count_up_to 100000 value)) answers in
    let scenario : Option Options = cond (bytes_eq name (codes "--scenario") && is_none o.scenario) (Some (with_scenario o place)) budget in
    either (bytes_eq name (codes "--query") && is_none o.query) (Some (with_query o place)) scenario h
    (either (bytes_eq name (codes "--scenario") && is_none o.scenario) (Some (with_scenario o place)) budget h
    (either (bytes_eq name (codes "--budget") && is_none o.budget) (option_map (with_budget o) (count_up_to 100000 value)) answers (budget_within o (count_up_to 100000 value) (count_within 100000 value) h)
    (either (bytes_eq name (codes "--answers") && is_none o.answers) (option_map (with_answers o) (count_up_to 1000 value)) None (answers_within o (count_up_to 1000 value) (count_within 1000 value) h) tt)))

then_within : (r : Option Options) (f : Options → Option Options) → IfSome r AreWithin → ((o : Options) → AreWithin o → IfSome (f o) AreWithin) → IfSome (option_and_then f r) AreWithin
then_within None f h k = tt
then_within (Some o) f h k = k o h

options_within : (at : ℕ) (o : Options) (words : List (List ℕ)) → AreWithin o → IfSome (options_from at o words) AreWithin
options_within at o [] h = h
options_within at o (name ∷ []) h = tt
options_within at o (name ∷ value ∷ words) h =
    then_within (with_option o name (at + 1) value) (λ p. options_from (at + 2) p words) (option_within o name (at + 1) value h) (λ p k. options_within (at + 2) p words k)

-- the limits of a task
abbrev pub IsLimited : Task → Type 0
IsLimited task = Within 100000 task.budget × Within 1000 task.answers

unwrapped : (most n : ℕ) (o : Option ℕ) → Within most n → IfSome o (Within most) → Within most (unwrap_or o n)
unwrapped most n None h k = h
unwrapped most n (Some m) h k = k

mapped : (o : Option ℕ) (f : ℕ → Task) → ((n : ℕ) → IsLimited (f n)) → IfSome (option_map f o) IsLimited
mapped None f h = tt
mapped (Some n) f h = h n

search_within : (command : Command) (o : Options) → AreWithin o → IfSome (search_task command o) IsLimited
search_within command o h =
    mapped o.query (λ place. record { command = command; query = Some place; scenario = o.scenario; budget = unwrap_or o.budget 100000; answers = unwrap_or o.answers 100 })
    (λ place. (unwrapped 100000 100000 o.budget (omega arith, omega arith) h.0, unwrapped 1000 100 o.answers (omega arith, omega arith) h.1))

then_limited : (r : Option Options) (f : Options → Option Task) → IfSome r AreWithin → ((o : Options) → AreWithin o → IfSome (f o) IsLimited) → IfSome (option_and_then f r) IsLimited
then_limited None f h k = tt
then_limited (Some o) f h k = k o h

plain_within : (o : Option Command) → IfSome (option_map plain_task o) IsLimited
plain_within None = tt
plain_within (Some command) = ((omega arith, omega arith), (omega arith, omega arith))

task_within : (o : Option Command) (word : List ℕ) (words : List (List ℕ)) → IfSome (task_of o word words) IsLimited
task_within (Some command) word words = then_limited (options_from 1 no_options words) (search_task command) (options_within 1 no_options words (tt, tt)) (λ o h. search_within command o h)
task_within None word words = plain_within (single_command word words)

job_within : (words : List (List ℕ)) → IfSome (job_of words) IsLimited
job_within [] = tt
job_within (word ∷ words) = task_within (search_command word) word words

-- the limits of the task that words ask for are in their ranges
pub limits_of : (words : List (List ℕ)) (task : Task) → job_of words ≡ Some task → IsLimited task
limits_of words task job = subst (λ o. IfSome o IsLimited) job (job_within words)
