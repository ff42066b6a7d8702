-- The parser behind the tokens of a text, and its faults so far.
use Rattle.std.specs.Prelude.{ℕ, zero, suc, ◌+◌, Bool, ◌&&◌, List, [], ◌∷◌, ◌++◌, length, Option, Some, None, if◌then◌else◌}
use Rattle.token_model.specs.Kinds.{Tok}
use Rattle.grammar_model.specs.Tables.{Table}
use Rattle.recovery_model.specs.Steps as rules
use Rattle.recovery_model.specs.Steps.{Fault}
use Rattle.grammar_model.specs.Ocaml.{Text, grammar}
use Rattle.recovery_model.specs.Items.{State, Mark, sound, held, marked, Item, Parser, Stepped, is_cut}
use Rattle.recovery_model.specs.Recovery.{with_token, is_marked, step, start}
use Rattle.syntax_tree.specs.Tallies.{Tallies, shifted_more}

-- the parser behind tokens that follow
abbrev pub run_on : Table → List Tok → Parser → Parser
run_on G [] p = p
run_on G (t ∷ ts) p = run_on G ts (step G p t).parser

-- the faults of tokens that follow
abbrev pub faults_on : Table → List Tok → Parser → List Fault
faults_on G [] p = []
faults_on G (t ∷ ts) p = (step G p t).faults ++ faults_on G ts (step G p t).parser

-- the parser behind the first tokens of a text
unfoldable pub run : Text → List Tok → Parser
run text ts = run_on (grammar text) ts (start (grammar text))

-- the step of one token more
abbrev pub next_step : Text → List Tok → Tok → Stepped
next_step text ts t = step (grammar text) (run text ts) t

-- the faults of the first tokens of a text
unfoldable pub faults : Text → List Tok → List Fault
faults text ts = faults_on (grammar text) ts (start (grammar text))

-- a counter behind so many tokens that were shifted
abbrev pub shifted_by : ℕ → Tallies → Tallies
shifted_by zero c = c
shifted_by (suc n) c = shifted_by n (shifted_more c)

-- how many tokens of an item are kept: those from its first cut token on, unless it has a fault
abbrev pub kept_of : Mark → ℕ
kept_of sound = 0
kept_of (held s ts) = length ts
kept_of marked = 0

-- the same of the open item, if there is one
abbrev pub kept_in : Option Item → ℕ
kept_in None = 0
kept_in (Some i) = kept_of i.mark

-- how many tokens are taken at a token in an item of which this is known with the token: the token, or those from the first cut token to it
abbrev pub shifts_sound : Option Fault → Mark → ℕ
shifts_sound None mark = 1
shifts_sound (Some f) sound = 1
shifts_sound (Some f) marked = 1
shifts_sound (Some f) (held q ts) = length ts

-- the same for an item of which this is known before the token, which is a cut token or not
abbrev pub shifts_item : State → Tok → Bool → Option Fault → Mark → ℕ
shifts_item s t c fault mark = if c && is_marked mark then 1 else shifts_sound fault (with_token s t c mark)

-- the same where an item may be open
abbrev pub shifts_by : State → Option Item → Tok → rules.Stepped → ℕ
shifts_by s None t r = 1
shifts_by s (Some i) t r = shifts_item s t (is_cut i.col t r) r.fault i.mark

-- how many tokens a step takes: one, or those that it takes again, the present one among them
unfoldable pub shifts : Table → Parser → Tok → ℕ
shifts G p t = shifts_by p.state p.item t (rules.step G p.state.stack p.state.place t)

-- how many tokens the step of one token more takes
abbrev pub next_shifts : Text → List Tok → Tok → ℕ
next_shifts text ts t = shifts (grammar text) (run text ts) t

-- how many tokens the steps of tokens that follow take
abbrev pub shifts_on : Table → List Tok → Parser → ℕ
shifts_on G [] p = 0
shifts_on G (t ∷ ts) p = shifts G p t + shifts_on G ts (step G p t).parser

-- how many tokens the steps of the first tokens of a text take
unfoldable pub all_shifts : Text → List Tok → ℕ
all_shifts text ts = shifts_on (grammar text) ts (start (grammar text))
