-- The demands that aren't kept: their sites, by the judgements.
use Rattle.std.proofs.Common.{◌≡◌, ◌∙◌, ℕ, zero, suc, ◌+◌, Bool, true, false, List, [], ◌∷◌, take, length, Some, refl, sym, ap, arith, if◌then◌else◌}
use Rattle.std.specs.Prelude.{slice_get}
use Rattle.tree_model.specs.Trees.{Tree}
use Rattle.signature_model.specs.Entries.{Environment}
use Rattle.typing_model.specs.Contexts.{Choice}
use Rattle.typing_model.specs.Demands.{Site, Condition, same, instance, made, known, demand, treated}
use Rattle.typing_model.specs.Plain.{has_values_alone}
use Rattle.typing_model.specs.Typings.{conditions_of}
use Rattle.fault_model.specs.Refused.{refused_as, refused_of, sites_refused}
use Rattle.typing_conditions.specs.Judging.{Judgement, judged_at, judgements, refused}
use Rattle.demand_laws.proofs.Texts.{values_ask_alike}

-- the sites of the judgements that aren't kept, in order
abbrev pub sites_left : List Judgement → List Site
sites_left [] = []
sites_left (j ∷ js) = if j.kept then sites_left js else j.site ∷ sites_left js

-- they are those of the demands that aren't kept
pub sites_refused_left : (kept : Site → Bool) (cs : List Condition) → sites_refused kept cs ≡ sites_left (judgements kept cs)
sites_refused_left kept [] = refl
sites_refused_left kept (same t u ∷ cs) = sites_refused_left kept cs
sites_refused_left kept (instance s t ∷ cs) = sites_refused_left kept cs
sites_refused_left kept (made n t ∷ cs) = sites_refused_left kept cs
sites_refused_left kept (known t ∷ cs) = sites_refused_left kept cs
sites_refused_left kept (demand s at d ∷ cs) = ap (λ ss. if kept s then ss else s ∷ ss) (sites_refused_left kept cs)
sites_refused_left kept (treated n env ∷ cs) = sites_refused_left kept cs

-- a judgement that isn't kept has its site among them, after as many as aren't kept before it
pub left_there : (js : List Judgement) (n k : ℕ) (s : Site) (closing : Bool) → slice_get js n ≡ Some (judged_at s false closing) → refused (take n js) ≡ k → slice_get (sites_left js) k ≡ Some s
left_there [] n k s closing e counts = absurd (cc)
left_there (j ∷ js) zero k s closing e counts =
    let is : j ≡ judged_at s false closing = cc in
    ap (λ (z : Judgement). slice_get (if z.kept then sites_left js else z.site ∷ sites_left js) k) is ∙ ap (slice_get (s ∷ sites_left js)) (sym counts)
left_there (j ∷ js) (suc n) k s closing e counts = by j.kept k counts (left_there js n (refused (take n js)) s closing e refl)
  where
    by : (b : Bool) (m : ℕ) → (if b then 0 else 1) + refused (take n js) ≡ m → slice_get (sites_left js) (refused (take n js)) ≡ Some s → slice_get (if b then sites_left js else j.site ∷ sites_left js) m ≡ Some s
    by true m c later = ap (slice_get (sites_left js)) (let z : m ≡ refused (take n js) = omega (arith, c) in z) ∙ later
    by false zero c later = absurd (omega (arith, c))
    by false (suc m) c later = ap (slice_get (sites_left js)) (let z : m ≡ refused (take n js) = omega (arith, c) in z) ∙ later

-- there are as many as faults
pub left_counted : (kept : Site → Bool) (cs : List Condition) → length (sites_refused kept cs) ≡ length (refused_of kept cs)
left_counted kept [] = refl
left_counted kept (same t u ∷ cs) = left_counted kept cs
left_counted kept (instance s t ∷ cs) = left_counted kept cs
left_counted kept (made n t ∷ cs) = left_counted kept cs
left_counted kept (known t ∷ cs) = left_counted kept cs
left_counted kept (demand s at d ∷ cs) = by (kept s) (left_counted kept cs)
  where
    by : (b : Bool) → length (sites_refused kept cs) ≡ length (refused_of kept cs) → length (if b then sites_refused kept cs else s ∷ sites_refused kept cs) ≡ length (if b then refused_of kept cs else refused_as at d ∷ refused_of kept cs)
    by true h = h
    by false h = ap suc h
left_counted kept (treated n env ∷ cs) = left_counted kept cs

-- In a text of `let`, exceptions and `;;` they don't depend on the types that are chosen.
pub values_left_alike : (env : Environment) (text : List Tree) → has_values_alone text ≡ true → (kept : Site → Bool) (ch other : Choice) → sites_refused kept (conditions_of env text kept ch) ≡ sites_refused kept (conditions_of env text kept other)
values_left_alike env text values kept ch other =
    sites_refused_left kept (conditions_of env text kept ch) ∙ ap sites_left (values_ask_alike env text values kept ch other) ∙ sym (sites_refused_left kept (conditions_of env text kept other))
