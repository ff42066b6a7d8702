-- Where names come from: the places of the entries that are recorded for them.
use Rattle.std.specs.Prelude.{◌≡◌, ℕ, List, Bool, false, ◌&&◌, nat_eq, slice_get, Option, Some, None, option_and_then, Result, Ok, Err}
use Rattle.std.specs.declared.rc.Rc.{Rc}
use Rattle.std.specs.declared.alloc.Global.{Global}
use Rattle.text_terms.specs.Bytes.{str_bytes}
use Rattle.text_terms.specs.declared.Span.{Span}
use Rattle.query_model.specs.NameTokens.{Name}
use Rattle.env_table.specs.declared.entries.Entry.{Entry}
use Rattle.env_table.specs.declared.entries.Place.{Place}
use Rattle.env_table.specs.declared.entries.Place.TheVariants.{Buffer, Prelude, BuiltIn}
use Rattle.env_table.specs.declared.seen.Seen.{Seen}
use Rattle.typed_index.specs.Seen.{seen_at}
use Rattle.typed_index.specs.declared.TypedIndex.{TypedIndex}
use Rattle.query_engine.specs.declared.asked.QueryFault.{QueryFault}
use Rattle.query_engine.specs.declared.asked.QueryFault.TheVariants.{NoNode, NotAName, Unbound, NoMemory}

-- where an entry that may be none is defined
abbrev pub place_in : Option (Rc Entry Global) → Option Place
place_in None = None
place_in (Some e) = Some e.value.place

-- where the entry of a name is defined: the one that is recorded for its node at its number
abbrev pub entry_place : TypedIndex Seen → Name → Option Place
entry_place index n = option_and_then (λ s. option_and_then place_in (slice_get s.names.items n.index)) (seen_at index n.node.item n.node.pre)

-- whether two places start and end alike
abbrev pub same_span : Span → Span → Bool
same_span a b = nat_eq a.start b.start && nat_eq a.end b.end

-- two places are one
abbrev pub same_place : Place → Place → Bool
same_place (Buffer a) (Buffer b) = same_span a b
same_place (Prelude a) (Prelude b) = same_span a b
same_place (BuiltIn j) (BuiltIn k) = nat_eq j k
same_place _ _ = false

-- the entry of a name is defined at a place
abbrev pub is_defined_at : (Name → Option Place) → Place → Name → Bool
is_defined_at f p n = elim (f n) [ None ↦ false | Some q ↦ same_place p q ]

-- a name has no such place, and it is told
abbrev pub IsUnbound : Name → QueryFault → Type 0
IsUnbound n (Unbound ident) = str_bytes ident ≡ n.name
IsUnbound n NotAName = ⊥
IsUnbound n NoNode = ⊥
IsUnbound n NoMemory = Unit {0}

-- an answer is right at the place where the entry of a name is defined
abbrev pub IsFound : {A : Type 0} → (Place → A → Type 0) → (Name → Option Place) → A → Option Name → Type 0
IsFound Q f a None = ⊥
IsFound Q f a (Some n) = (p : Place) × (f n ≡ Some p) × Q p a

-- the entry of a name isn't known, and the name is told
abbrev pub IsLost : (Name → Option Place) → List ℕ → Option Name → Type 0
IsLost f ident None = ⊥
IsLost f ident (Some n) = (f n ≡ None) × (ident ≡ n.name)

-- What is answered of a name, if there is one: of the place where its entry is defined, if it is.
abbrev pub MeetsName : {A : Type 0} → (Place → A → Type 0) → (Name → Option Place) → Result A QueryFault → Option Name → Type 0
MeetsName Q f (Ok a) o = IsFound Q f a o
MeetsName Q f (Err NotAName) o = o ≡ None
MeetsName Q f (Err (Unbound ident)) o = IsLost f (str_bytes ident) o
MeetsName Q f (Err NoNode) o = ⊥
MeetsName Q f (Err NoMemory) o = Unit {0}
