-- What the fields of a record pattern carry, one after the other.
use Rattle.std.specs.Prelude.{◌≡◌, ℕ, true, List, [], ◌∷◌, ◌++◌, Option, Some, None, option_map}
use Rattle.token_model.specs.Kinds.{Tok}
use Rattle.type_model.specs.Types.{Typ}
use Rattle.signature_model.specs.Declarations as rules
use Rattle.signature_model.specs.Declarations.{Name, in_text, type_of}
use Rattle.typing_model.specs.Demands.{Condition, equal}
use Rattle.typing_model.specs.Contexts.{Choice, Context, Bound, ask, type_at}
use Rattle.typing_model.specs.Parts.{Written, FieldPattern, place_of}
use Rattle.typing_model.specs.Patterns.{match_pun, match_fields, names_in_field, mentions_in_field}
use Rattle.type_terms.specs.declared.types.NodeRef.{NodeRef}
use Rattle.env_table.specs.declared.entries.Declaration.{Declaration}
use Rattle.env_table.specs.declared.entries.Entry.{Entry}
use Rattle.typing_state.specs.declared.parts.Parts.{Parts}
use Rattle.typing_state.specs.Goes.{Goes}
use Rattle.typing_conditions.specs.Sights.{Sight, Letters, AreNodes}
use Rattle.typing_conditions.specs.Frames.{Frame}
use Rattle.typing_conditions.specs.Meanings.{Means}
use Rattle.typing_conditions.specs.Carrying.{Asks, Scope, Carried}
use Rattle.typing_conditions.specs.Surroundings.{Surrounds, IsEntry}
use Rattle.typing_conditions.specs.Hiding.{AreDone}
use Rattle.typing_steps.specs.States.{is_aloud, sight}
use Rattle.typing_steps.specs.Typing.{as_declared, TypesAny}
use Rattle.typing_steps.specs.Building.{used_by, HasIfThere}
use Rattle.record_steps.specs.Recording.{StandsFor, IsUseOf, TypesField, HasScope, NotesScope, NotesNode}
use Rattle.pattern_rows.specs.Bounds.{Bind, AllBound, Adds}
use Rattle.pattern_rows.specs.Contracts.{AsksFresh}

-- a record type of the code, where it is known: its declaration, and the node of its type
abbrev pub RecordHere : Type 0
RecordHere = Option (Declaration × ℕ)

-- it stands for one of the definitions, whose type the node has as it is used at the record's node, and is a use of it where all of names is known; or neither is known
abbrev pub KnownAs : Frame → Sight → Letters → ℕ → RecordHere → Option rules.Declaration → Type 0
KnownAs F a G n None None = Unit {0}
KnownAs F a G n None (Some e) = ⊥
KnownAs F a G n (Some r) None = ⊥
KnownAs F a G n (Some r) (Some e) = StandsFor F a r.0 e × Means F a G (used_by n (type_of e)) r.1 × (F.known ≡ true → IsUseOf a e r.1)

-- what the beginning of a field carries; where the record type isn't known, nothing is asked, and all is as before
abbrev pub BeginsField : RecordHere → (a b : Parts) → List Name → Written → Option ℕ → Type 0
BeginsField None a b labels p ty = (ty ≡ None) × (b ≡ a)
BeginsField (Some r) a b labels p ty = TypesField a b r.0 r.1 labels p ty

-- the names that fields bind
abbrev pub names_of_fields : ℕ → List FieldPattern → List Bound
names_of_fields n [] = []
names_of_fields n (f ∷ fs) = names_in_field n f ++ names_of_fields n fs

-- all names in fields
abbrev pub mentions_of_fields : List FieldPattern → List Name
mentions_of_fields [] = []
mentions_of_fields (f ∷ fs) = mentions_in_field f ++ mentions_of_fields fs

-- the type that is chosen, where there is one
abbrev pub chosen_in : Context → Option (Choice → Typ) → Option Typ
chosen_in c t = option_map (λ u. u c.chosen) t

-- what is asked of a field after its label, by the type of the field
abbrev pub field_rest : Context → FieldPattern → List Name → Option Typ → List Condition
field_rest c f seen t = elim f.pattern [ None ↦ match_pun c f seen t | Some p ↦ p.matched c seen ++ elim t [ None ↦ [] | Some t ↦ ask f.node 1 p.at (equal (type_at c p.node) t) ] ]

-- This was carried, with letters that stay open, where a field of a record has this type. Its names stand for those that it binds, whatever other letters
-- are open. The names in scope are recorded for its node by then.
pub record FieldEnded (env : List Entry) (F : Frame) (scope : Scope) (a : Sight) (G : Letters) (b : Sight) (n : ℕ) (f : FieldPattern) (seen : List Name) (t : Option (Choice → Typ)) (added : List Bind) (opens : Letters) : Type 0 where
  pub carried : Carried F scope (λ c. field_rest c f seen (chosen_in c t)) a G b (opens ++ G)
  pub done : AreDone b carried.hidden opens
  pub names : (H : Letters) → Surrounds as_declared F a H env scope → AllBound F b (opens ++ H) (names_in_field n f) added
  pub scoped : HasScope b f.node env

-- the same of a call, where faults are reported; it opens the same letters whatever surrounds it
pub record EndsField (a b : Parts) (env : List Entry) (f : FieldPattern) (seen : List Name) (added : List Bind) (ty : Option ℕ) : Type 0 where
  pub opens : Letters
  pub typed : is_aloud a.telling ≡ true → (F : Frame) (scope : Scope) (G : Letters) (n : ℕ) (t : Option (Choice → Typ)) → scope.own f.node ≡ true → Surrounds as_declared F (sight a) G env scope → HasIfThere F (sight a) G t ty → FieldEnded env F scope (sight a) G (sight b) n f seen t added opens

-- the same with the names that are added
pub record FieldAdds (a b : Parts) (env : List Entry) (f : FieldPattern) (names names' : List Bind) (seen seen' : List Name) (ty : Option ℕ) : Type 0 where
  pub added : List Bind
  pub adds : Adds names names' added seen seen' (mentions_in_field f)
  pub typed : EndsField a b env f seen added ty

-- a node that is wanted, or a new one of any type
abbrev pub GivesType : Option ℕ → (a b : Parts) → ℕ → Type 0
GivesType None a b m = TypesAny a b m
GivesType (Some w) a b m = (m ≡ w) × (b ≡ a)

-- The name of a label is bound to a type: it is asked to be new, and stands behind the others; the node k of the field is noted then.
pub record BindsLabel (a d : Parts) (env : List Entry) (k : ℕ) (t : Tok) (ty : NodeRef) (names names' : List Bind) (seen seen' : List Name) : Type 0 where
  pub between : Parts
  pub entry : Entry
  pub fresh : AsksFresh a between t seen
  pub goes : Goes a between
  pub is_entry : IsEntry entry t.name (in_text (place_of t)) ty
  pub noted : NotesNode between d k env
  pub adds : Adds names names' (record { token = t; node = ty; entry = entry } ∷ []) seen seen' (t.name ∷ [])

-- the same with the type of its field, or any type where that isn't known
pub record PunsName (a d : Parts) (env : List Entry) (k : ℕ) (t : Tok) (wanted : Option ℕ) (names names' : List Bind) (seen seen' : List Name) : Type 0 where
  pub mid : Parts
  pub ty : NodeRef
  pub given : GivesType wanted a mid ty.0
  pub goes : Goes a mid
  pub binds : BindsLabel mid d env k t ty names names' seen seen'

-- what comes of a field without a pattern of its own, with the node k, by the token of its label
abbrev pub Puns : Option Tok → (a d : Parts) → List Entry → (k : ℕ) → (wanted : Option ℕ) → (names names' : List Bind) (seen seen' : List Name) → Type 0
Puns None a d env k wanted names names' seen seen' = NotesScope a d k env × (names' ≡ names) × (seen' ≡ seen)
Puns (Some t) a d env k wanted names names' seen seen' = PunsName a d env k t wanted names names' seen seen'

-- Fields were matched, among letters of the record that are open around them: what they ask is carried, with letters that stay open, and their names stand for those that they
-- bind, also among the letters around the record.
pub record FieldsMatched (F : Frame) (scope : Scope) (a : Sight) (K G : Letters) (b : Sight) (n : ℕ) (found : Option rules.Declaration) (fs : List FieldPattern) (seen : List Name) (added : List Bind) (opens : Letters) : Type 0 where
  pub carried : Carried F scope (λ c. match_fields c n found fs [] seen) a (K ++ G) b (opens ++ (K ++ G))
  pub done : AreDone b carried.hidden opens
  pub names : AllBound F b (opens ++ G) (names_of_fields n fs) added

-- the same of a call, where faults are reported; it opens the same letters whatever surrounds it
pub record MatchesFields (a b : Parts) (env : List Entry) (here : RecordHere) (fs : List FieldPattern) (seen : List Name) (added : List Bind) : Type 0 where
  pub opens : Letters
  pub typed : is_aloud a.telling ≡ true → (F : Frame) (scope : Scope) (K G : Letters) (n : ℕ) (found : Option rules.Declaration) → Surrounds as_declared F (sight a) G env scope → AreNodes K (sight a).nodes →
      KnownAs F (sight a) (K ++ G) n here found → FieldsMatched F scope (sight a) K G (sight b) n found fs seen added opens

-- the first of some fields were matched, and some are left; `labels` are those written so far, and `now` the names seen so far
pub record FieldsFirst (F : Frame) (scope : Scope) (a : Sight) (K G : Letters) (b : Sight) (n : ℕ) (found : Option rules.Declaration) (all left : List FieldPattern) (seen labels now : List Name) (added : List Bind) (opens : Letters) : Type 0 where
  pub done : Asks
  pub bounds : List Bound
  pub carried : Carried F scope done a (K ++ G) b (opens ++ (K ++ G))
  pub rows_done : AreDone b carried.hidden opens
  pub names : AllBound F b (opens ++ G) bounds added
  pub asks : (c : Context) → match_fields c n found all [] seen ≡ done c ++ match_fields c n found left labels now
  pub binds : names_of_fields n all ≡ bounds ++ names_of_fields n left

-- the same in a loop
pub record MatchesFieldsFirst (a b : Parts) (env : List Entry) (here : RecordHere) (all left : List FieldPattern) (seen labels now : List Name) (added : List Bind) : Type 0 where
  pub opens : Letters
  pub typed : is_aloud a.telling ≡ true → (F : Frame) (scope : Scope) (K G : Letters) (n : ℕ) (found : Option rules.Declaration) → Surrounds as_declared F (sight a) G env scope → AreNodes K (sight a).nodes →
      KnownAs F (sight a) (K ++ G) n here found → FieldsFirst F scope (sight a) K G (sight b) n found all left seen labels now added opens

-- the same with the names that are added
pub record FieldsInOrder (a b : Parts) (env : List Entry) (here : RecordHere) (fs : List FieldPattern) (names names' : List Bind) (seen seen' : List Name) : Type 0 where
  pub added : List Bind
  pub adds : Adds names names' added seen seen' (mentions_of_fields fs)
  pub typed : MatchesFields a b env here fs seen added

-- and in a loop
pub record FieldsInOrderFirst (a b : Parts) (env : List Entry) (here : RecordHere) (all left : List FieldPattern) (names names' : List Bind) (seen labels seen' : List Name) : Type 0 where
  pub added : List Bind
  pub mentions : List Name
  pub adds : Adds names names' added seen seen' mentions
  pub mentioned : mentions_of_fields all ≡ mentions ++ mentions_of_fields left
  pub typed : MatchesFieldsFirst a b env here all left seen labels seen' added
