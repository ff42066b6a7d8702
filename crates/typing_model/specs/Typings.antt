-- Typings of a text, which demands are kept, and the most general typing (Damas and Milner 1982).
use Rattle.std.specs.Prelude.{◌≡◌, ℕ, Bool, true, false, ◌&&◌, ◌||◌, List, [], ◌∷◌, Option, Some, None}
use Rattle.type_model.specs.Types.{Path, Typ, Var}
use Rattle.type_model.specs.Substitutions.{Subst, apply}
use Rattle.tree_model.specs.Trees.{Place, Tree}
use Rattle.signature_model.specs.Signatures.{Signature}
use Rattle.signature_model.specs.Entries.{Environment, free_in, free_in_signature}
use Rattle.signature_model.specs.Functors.{IsClosed}
use Rattle.typing_model.specs.Demands.{Site, same_site, Demand, equal, test, agrees, matches, closes, Condition, same, instance, made, known, demand, treated, AllHold, sites_of, demand_of}
use Rattle.typing_model.specs.Contexts.{Choice, Context, in_item}
use Rattle.typing_model.specs.Parts.{no_names}
use Rattle.typing_model.specs.Items.{items_ask}
use Rattle.typing_model.specs.Meanings.{items_of}

-- the context of a text's first item
abbrev pub outermost : Environment → (Site → Bool) → Choice → Context
outermost env kept choice = record { env = env; variables = in_item 0; held = []; kept = kept; chosen = choice }

-- what the items of a text ask, for the kept demands and the types that are chosen
abbrev pub conditions_of : Environment → List Tree → (Site → Bool) → Choice → List Condition
conditions_of env text kept choice = items_ask (outermost env kept choice) no_names (items_of text)

-- types for the nodes of a text with which conditions hold
pub record Fits (kept : Site → Bool) (asked : Choice → List Condition) (types : ℕ → Typ) : Type 0 where
  pub choice : Choice
  pub chosen : (n : ℕ) → choice.type_at n ≡ types n
  pub holds : AllHold kept (asked choice)

-- the most general ones: all others are instances of them, at all nodes by one substitution
pub record IsMostGeneral (kept : Site → Bool) (asked : Choice → List Condition) (types : ℕ → Typ) : Type 0 where
  pub fits : Fits kept asked types
  pub general : (others : ℕ → Typ) → Fits kept asked others → (s : Subst) × ((n : ℕ) → others n ≡ apply s (types n))

-- the most general choice: all others are instances of it, in the types of the nodes, those that rows leave open, and those that unknown ones stand for
pub record IsMostGeneralChoice (kept : Site → Bool) (asked : Choice → List Condition) (choice : Choice) : Type 0 where
  pub holds : AllHold kept (asked choice)
  pub general : (other : Choice) → AllHold kept (asked other) → (s : Subst) × ((n : ℕ) → other.type_at n ≡ apply s (choice.type_at n)) ×
      ((n k : ℕ) → other.letter n k ≡ apply s (choice.letter n k)) × ((n : ℕ) (o : Path) → other.filled n o ≡ apply s (choice.filled n o))

-- a typing of a text under a set of kept demands
abbrev pub Typing : Environment → List Tree → (Site → Bool) → (ℕ → Typ) → Type 0
Typing env text kept types = Fits kept (conditions_of env text kept) types

-- a most general typing
abbrev pub IsPrincipal : Environment → List Tree → (Site → Bool) → (ℕ → Typ) → Type 0
IsPrincipal env text kept types = IsMostGeneral kept (conditions_of env text kept) types

-- which demands are made depends on names and on the kept demands, and not on the types that are chosen
abbrev pub no_choice : Choice
no_choice = record { type_at = λ n. Var 0; letter = λ n k. Var 0; written = λ n x. Var 0; filled = λ n o. Var 0 }

-- the demands of a text, in order
abbrev pub demands_of : Environment → List Tree → (Site → Bool) → List Site
demands_of env text kept = sites_of (conditions_of env text kept no_choice)

-- whether a site is one of a list
abbrev pub is_site_among : Site → List Site → Bool
is_site_among s [] = false
is_site_among s (t ∷ ts) = same_site s t || is_site_among s ts

-- the sites before the first s
abbrev pub sites_before : Site → List Site → List Site
sites_before s [] = []
sites_before s (t ∷ ts) = elim (same_site s t) [ true ↦ [] | false ↦ t ∷ sites_before s ts ]

-- the demands kept before s
abbrev pub kept_before : Environment → List Tree → (Site → Bool) → Site → Site → Bool
kept_before env text kept s x = kept x && is_site_among x (sites_before s (demands_of env text kept))

-- the same and s itself
abbrev pub kept_with : Environment → List Tree → (Site → Bool) → Site → Site → Bool
kept_with env text kept s x = same_site s x || kept_before env text kept s x

-- a typing of a text exists under these kept demands
abbrev pub HasTyping : Environment → List Tree → (Site → Bool) → Type 0
HasTyping env text kept = (types : ℕ → Typ) × Typing env text kept types

-- the conditions before the demand of a site: those of the text up to where it is made
abbrev pub conditions_before : Site → List Condition → List Condition
conditions_before x [] = []
conditions_before x (same t u ∷ cs) = same t u ∷ conditions_before x cs
conditions_before x (instance s t ∷ cs) = instance s t ∷ conditions_before x cs
conditions_before x (made n t ∷ cs) = made n t ∷ conditions_before x cs
conditions_before x (known t ∷ cs) = known t ∷ conditions_before x cs
conditions_before x (demand s at d ∷ cs) = elim (same_site x s) [ true ↦ [] | false ↦ demand s at d ∷ conditions_before x cs ]
conditions_before x (treated n env ∷ cs) = treated n env ∷ conditions_before x cs

-- the conditions up to the demand of a site, and that demand; all of them where it isn't made
abbrev pub conditions_up_to : Site → List Condition → List Condition
conditions_up_to x [] = []
conditions_up_to x (same t u ∷ cs) = same t u ∷ conditions_up_to x cs
conditions_up_to x (instance s t ∷ cs) = instance s t ∷ conditions_up_to x cs
conditions_up_to x (made n t ∷ cs) = made n t ∷ conditions_up_to x cs
conditions_up_to x (known t ∷ cs) = known t ∷ conditions_up_to x cs
conditions_up_to x (demand s at d ∷ cs) = demand s at d ∷ elim (same_site x s) [ true ↦ [] | false ↦ conditions_up_to x cs ]
conditions_up_to x (treated n env ∷ cs) = treated n env ∷ conditions_up_to x cs

-- some types meet the conditions of a text up to a demand, and the demand, under these kept demands; what stands after it may ask for other things
pub record IsMetUpTo (env : Environment) (text : List Tree) (kept : Site → Bool) (s : Site) : Type 0 where
  pub choice : Choice
  pub holds : AllHold kept (conditions_up_to s (conditions_of env text kept choice))

-- the body of a `closing`, and its environment
abbrev pub body_in : Demand → Option (Environment × Signature)
body_in (equal t u) = None
body_in (test c b) = None
body_in (agrees c n s t) = None
body_in (matches A t) = None
body_in (closes env s) = Some (env, s)

-- the same of a demand that may be there
abbrev pub body_asked : Option (Place × Demand) → Option (Environment × Signature)
body_asked None = None
body_asked (Some d) = body_in d.1

-- the body of the `closing` at a site, if it is one
abbrev pub body_at : Site → List Condition → Option (Environment × Signature)
body_at s cs = body_asked (demand_of s cs)

-- whether the demand of a site is a `closing`
abbrev pub is_closing : Environment → List Tree → (Site → Bool) → Site → Bool
is_closing env text kept s = elim (body_at s (conditions_of env text kept no_choice)) [ None ↦ false | Some b ↦ true ]

-- a body that a most general typing of the text up to its end gives, under the demands kept before its `closing`
pub record IsBody (env : Environment) (text : List Tree) (kept : Site → Bool) (s : Site) (outer : Environment) (body : Signature) : Type 0 where
  pub choice : Choice
  pub general : IsMostGeneralChoice (kept_before env text kept s) (λ choice. conditions_before s (conditions_of env text (kept_before env text kept s) choice)) choice
  pub stands : body_at s (conditions_of env text (kept_before env text kept s) choice) ≡ Some (outer, body)

-- The kept demands of a text: a demand is kept exactly where some types meet the conditions of the text up to it, under the demands kept before it and itself;
-- but a `closing`, which asks nothing of the types, is kept exactly where its body leaves nothing open.
pub record IsKept (env : Environment) (text : List Tree) (kept : Site → Bool) : Type 0 where
  pub only : (s : Site) → kept s ≡ true → is_site_among s (demands_of env text kept) ≡ true
  pub exists : (s : Site) → kept s ≡ true → IsMetUpTo env text (kept_with env text kept s) s
  pub fails : (s : Site) → is_site_among s (demands_of env text kept) ≡ true → is_closing env text kept s ≡ false → kept s ≡ false → IsMetUpTo env text (kept_with env text kept s) s → ⊥
  pub closed : (s : Site) → is_closing env text kept s ≡ true → kept s ≡ true → (outer : Environment) × (body : Signature) × IsBody env text kept s outer body × IsClosed outer body
  pub left_open : (s : Site) → is_site_among s (demands_of env text kept) ≡ true → is_closing env text kept s ≡ true → kept s ≡ false →
      (outer : Environment) × (body : Signature) × IsBody env text kept s outer body × (v : ℕ) × (free_in_signature v body ≡ true) × (free_in v outer ≡ false)
