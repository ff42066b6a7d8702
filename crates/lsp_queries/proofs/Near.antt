-- Terms for missing parts, fault by fault.
use Rattle.std.proofs.Common.{◌≡◌, ◌<◌, ℕ, Bool, true, List, [], ◌∷◌, length, map, refl, arith}
use Rattle.service_model.specs.Replies as said
use Rattle.service_model.specs.Structure.{ErrorsAre}
use Rattle.lsp_model.specs.Answers.{Action}
use Rattle.lsp_model.specs.Positions.{Columns}
use Rattle.lsp_queries.specs.Actions.{is_missing_near, OrOthers, TermsAt, TermsByFaults, TermsNear, TermsPart}
use Rattle.lsp_queries.specs.Shown.{place_told}

-- some are taken
pub others_found : {X : Type 0} (f : X → Action) (xs : List X) (Others : Type 0) → 0 < length xs → OrOthers (map f xs) (map f xs) Others
others_found f [] Others some = absurd (omega (arith, some))
others_found f (x ∷ xs) Others some = refl

-- without any, others are
pub others_empty : {X : Type 0} (f : X → Action) (xs : List X) (acts : List Action) (Others : Type 0) → length xs ≡ 0 → Others → OrOthers (map f xs) acts Others
others_empty f [] acts Others none is = is
others_empty f (x ∷ xs) acts Others none is = absurd (omega (arith, none))

-- a fault without terms
pub near_on : {X : Type 0} (g : X → Action) (by : Columns) (text : List ℕ) (asked : ℕ × ℕ) (f : said.Fault) (fs : List said.Fault) (xs : List X) (acts : List Action) → length xs ≡ 0
    → TermsAt (is_missing_near text asked f) by text (place_told text f.start) (map g xs) → TermsNear by text asked fs acts → TermsNear by text asked (f ∷ fs) acts
near_on g by text asked f fs xs acts none at later = (map g xs, at, others_empty g xs acts (TermsNear by text asked fs acts) none later)

-- one with terms
pub near_found : {X : Type 0} (g : X → Action) (by : Columns) (text : List ℕ) (asked : ℕ × ℕ) (f : said.Fault) (fs : List said.Fault) (xs : List X) → 0 < length xs
    → TermsAt (is_missing_near text asked f) by text (place_told text f.start) (map g xs) → TermsNear by text asked (f ∷ fs) (map g xs)
near_found g by text asked f fs xs some at = (map g xs, at, others_found g xs (TermsNear by text asked fs (map g xs)) some)

-- without any terms at the place, those for the faults are
pub terms_by_faults : {X : Type 0} (g : X → Action) (here : List X) (by : Columns) (text : List ℕ) (asked : ℕ × ℕ) (fs : List said.Fault) (more : Bool) (acts : List Action) → length here ≡ 0 → ErrorsAre text (said.faults fs more)
    → TermsNear by text asked fs acts → TermsPart true (map g here) by text asked acts
terms_by_faults g here by text asked fs more acts none errors near = others_empty g here acts (TermsByFaults by text asked acts) none (fs, more, errors, near)
