-- What the record type of labels carries of the conditions that the definitions ask.
use Rattle.std.proofs.Common.{◌≡◌, ◌≢◌, ◌∙◌, ◌-◌, ◌||◌, ℕ, suc, Bool, true, false, not, List, [], ◌∷◌, map, Option, Some, None, option_map, refl, sym, ap, subst, length, arith, inl, inr}
use Rattle.std.specs.Prelude.{slice_get, Result, Ok, Err, IfOk, OnOk}
use Rattle.std.specs.declared.alloc.AllocError.{AllocError}
use Rattle.std.specs.Option.{option_or}
use Rattle.std.specs.declared.rc.Rc.{Rc}
use Rattle.std.specs.declared.alloc.Global.{Global}
use Rattle.token_model.specs.Kinds.{Tok}
use Rattle.syntax_tree.specs.View.{tok_of}
use Rattle.syntax_tree.specs.declared.tree.Token.{Token}
use Rattle.signature_model.specs.Declarations.{Name}
use Rattle.signature_model.specs.Lookups.{FoundAmong, an_entry, a_hole, nothing}
use Rattle.typing_model.specs.Parts as parts
use Rattle.typing_model.specs.Records.{first_token, is_among, labels_of}
use Rattle.row_parts.specs.Numbered.{Written}
use Rattle.type_terms.specs.declared.types.NodeRef.{NodeRef}
use Rattle.type_nodes.specs.Nodes.{Tuple, IsNode, IsSound}
use Rattle.type_nodes.specs.Links.{reading}
use Rattle.level_unify.specs.Instances.{Instantiated}
use Rattle.type_nodes.specs.Views.{numbers}
use Rattle.env_table.specs.declared.entries.Declaration.{Declaration}
use Rattle.env_table.specs.declared.entries.Entry.{Entry}
use Rattle.env_table.specs.declared.entries.Label.{Label}
use Rattle.env_table.specs.declared.entries.What as whats
use Rattle.env_table.specs.declared.entries.What.TheVariants as what
use Rattle.env_table.specs.declared.faults.FaultKind.TheVariants as fault
use Rattle.env_table.specs.declared.seen.Seen.{Seen}
use Rattle.typing_state.specs.Notes.{Noted}
use Rattle.typing_state.specs.Messages.{twice_text}
use Rattle.typing_state.specs.declared.parts.Parts.{Parts}
use Rattle.typing_state.specs.Bound.{lost_among, names_of_tokens}
use Rattle.typing_state.specs.Goes.{faults_of, Goes, OnlyFaults, OnlyIndex, OnlyStore, Told}
use Rattle.typing_state.specs.Types.{level_for, JoinedIfNodes}
use Rattle.typing_steps.specs.Demands.{TestedAs}
use Rattle.typing_steps.specs.Typing.{path_as}
use Rattle.record_steps.specs.Named.{labels_here, label_here}
use Rattle.record_steps.specs.Recording.{IsLast, AsksOnce, label_written, GivesField, TakesRoot, TakesField, lost_of, found_here, TellsNone, TypesRecord, TypesNoRecord, NotesScope}
use Rattle.record_steps.proofs.Named.{names_turned}
use Rattle.typing_conditions.specs.Sights.{number_in}
use Rattle.record_steps.proofs.Noted.{untyped_scope}
use Rattle.record_steps.proofs.Fielded.{field_typed}
use Rattle.record_steps.proofs.Typed.{record_label, record_known, record_in_hole, record_lost}
use Rattle.use_typing.specs.declared.record_types.RecordType.{RecordType}
use Rattle.use_typing.specs.declared.record_types.RecordType.TheVariants as record_type
use Rattle.use_typing.specs.Labels.{TellsLabels, is_named_in, declared_in, first_lost, first_written, found_by, label_paths}
use Rattle.use_typing.specs.declared.uses.LabelUse.{LabelUse}
use Rattle.use_typing.specs.Uses.{UsesLabel}
use Rattle.use_typing.specs.Records.{AsksNew, GivesFieldOf, BeginsField, TakesBehind, TakesFound, TypesRecordType}

-- labels as the definitions take them
pub paths_alike : (ls : List Written) → label_paths ls ≡ labels_of (map path_as ls)
paths_alike [] = refl
paths_alike (p ∷ ps) = by p.last (paths_alike ps)
  where
    by : (o : Option Tok) → label_paths ps ≡ labels_of (map path_as ps) → label_paths (record { qualifiers = p.qualifiers; last = o } ∷ ps) ≡ labels_of (map path_as (record { qualifiers = p.qualifiers; last = o } ∷ ps))
    by None later = later
    by (Some t) later = ap (λ ls. record { modules = map (λ (x : Tok). x.name) p.qualifiers; name = t.name } ∷ ls) later

-- their first qualifier that names no module
lost_alike : (env : List Entry) (ls : List Written) → first_lost env ls ≡ lost_of env (map path_as ls)
lost_alike env [] = refl
lost_alike env (p ∷ ps) = by p.last (lost_alike env ps)
  where
    either : (q : Option Tok) → first_lost env ps ≡ lost_of env (map path_as ps) → option_or q (first_lost env ps) ≡ elim q [ None ↦ lost_of env (map path_as ps) | Some t ↦ Some t ]
    either None later = later
    either (Some t) later = refl

    by : (o : Option Tok) → first_lost env ps ≡ lost_of env (map path_as ps) → first_lost env (record { qualifiers = p.qualifiers; last = o } ∷ ps) ≡ lost_of env (map path_as (record { qualifiers = p.qualifiers; last = o } ∷ ps))
    by None later = later
    by (Some t) later = either (lost_among env p.qualifiers) later

-- the first one that is written
first_alike : (ls : List Written) → first_written ls ≡ first_token (map path_as ls)
first_alike [] = refl
first_alike (p ∷ ps) = by p.last (first_alike ps)
  where
    by : (o : Option Tok) → first_written ps ≡ first_token (map path_as ps) → option_or o (first_written ps) ≡ elim o [ None ↦ first_token (map path_as ps) | Some t ↦ Some t ]
    by None later = later
    by (Some t) later = refl

-- what they find
pub found_alike : (env : List Entry) (ls : List Written) → found_by env (label_paths ls) ≡ found_here env (map path_as ls)
found_alike env ls = ap (found_by env) (paths_alike ls)

-- labels that find nothing are reported as the definitions ask
tells_none : (lost first : Option Tok) (a b : Parts) → TellsLabels lost first a b → (first ≡ None → lost ≡ None) → TellsNone lost first a b
tells_none None None a b h none = h
tells_none None (Some t) a b h none = h
tells_none (Some q) None a b h none = absurd (let f : Some q ≡ None = none refl in cc)
tells_none (Some q) (Some t) a b h none = h

-- where none is written none of their qualifiers counts
lost_written : (env : List Entry) (ls : List Written) → first_written ls ≡ None → first_lost env ls ≡ None
lost_written env [] h = refl
lost_written env (p ∷ ps) h = by p.last h (lost_written env ps)
  where
    by : (o : Option Tok) → option_or o (first_written ps) ≡ None → (first_written ps ≡ None → first_lost env ps ≡ None) → first_lost env (record { qualifiers = p.qualifiers; last = o } ∷ ps) ≡ None
    by None e later = later e
    by (Some t) e later = absurd (cc)

declared_label : (r : Rc Declaration Global) (place : ℕ) → declared_in (what.Label r place) ≡ Some r.value
unfolding whats.out-What denote.Hole.Carrier.out
declared_label r place = refl

-- Labels that find a record type, or that are in a module that isn't known.
pub record_typed : (env : List Entry) (ls : List Written) (a b : Parts) (r : RecordType) → TakesFound (found_by env (label_paths ls)) a b (Some r) → TypesRecordType r a b env (map path_as ls)
record_typed env ls a b r takes = by (found_by env (label_paths ls)) (sym (found_alike env ls)) takes
  where
    hole : found_here env (map path_as ls) ≡ a_hole → Some r ≡ Some record_type.Open → b ≡ a → TypesRecordType r a b env (map path_as ls)
    hole e is same =
        let f : r ≡ record_type.Open = cc in
        subst (λ x. TypesRecordType x a b env (map path_as ls)) (sym f) (subst (λ z. TypesNoRecord a z env (map path_as ls)) (sym same) (λ aloud F scope G n k at. record_in_hole a (map path_as ls) n k at e))

    behind : (x : Entry) → found_here env (map path_as ls) ≡ an_entry x → (o : Option Declaration) → declared_in x.what ≡ o → TakesBehind o a b (Some r) → TypesRecordType r a b env (map path_as ls)
    behind x e None d (is, same) =
        let f : r ≡ record_type.Open = cc in
        subst (λ x. TypesRecordType x a b env (map path_as ls)) (sym f) (λ aloud F scope G n k at.
        absurd (let h = record_label a (map path_as ls) n k at x e in let g : None ≡ Some h.0.value = sym d ∙ ap declared_in h.2 ∙ declared_label h.0 h.1 in cc))
    behind x e (Some d) is_d (declared, m, is, value, takes) =
        let f : r ≡ record_type.Known declared m = cc in
        subst (λ x. TypesRecordType x a b env (map path_as ls)) (sym f) (subst (λ z. TypesRecord a b env (map path_as ls) z m.0) (sym value) (λ aloud F scope G n k at.
        record_known a (map path_as ls) n k at b x d m.0 e (λ r place w. let g : Some r.value ≡ Some d = sym (declared_label r place) ∙ sym (ap declared_in w) ∙ is_d in cc) takes))

    by : (f : FoundAmong Entry) → found_here env (map path_as ls) ≡ f → TakesFound f a b (Some r) → TypesRecordType r a b env (map path_as ls)
    by (an_entry x) e t = behind x e (declared_in x.what) refl t
    by a_hole e (is, same) = hole e is same
    by nothing e (is, same) = absurd (let f : Some r ≡ None = is in cc)

-- Labels that find nothing.
pub record_untyped : (env : List Entry) (ls : List Written) (a mid b : Parts) → TakesFound (found_by env (label_paths ls)) a mid None → TellsLabels (first_lost env ls) (first_written ls) mid b → OnlyFaults mid b → TypesRecordType record_type.Open a b env (map path_as ls)
record_untyped env ls a mid b takes tells rest = by (found_by env (label_paths ls)) (sym (found_alike env ls)) takes
  where
    told : TellsNone (lost_of env (map path_as ls)) (first_token (map path_as ls)) mid b
    told = let h = tells_none (first_lost env ls) (first_written ls) mid b tells (lost_written env ls) in
        subst (λ o. TellsNone o (first_token (map path_as ls)) mid b) (lost_alike env ls) (subst (λ o. TellsNone (first_lost env ls) o mid b) (first_alike ls) h)

    behind : (o : Option Declaration) → TakesBehind o a mid None → TypesRecordType record_type.Open a b env (map path_as ls)
    behind None (is, same) = absurd (let f : None ≡ Some record_type.Open = is in cc)
    behind (Some d) (declared, m, is, value, more) = absurd (let f : None ≡ Some (record_type.Known declared m) = is in cc)

    by : (f : FoundAmong Entry) → found_here env (map path_as ls) ≡ f → TakesFound f a mid None → TypesRecordType record_type.Open a b env (map path_as ls)
    by (an_entry x) e t = behind (declared_in x.what) t
    by a_hole e (is, same) = absurd (let f : None ≡ Some record_type.Open = is in cc)
    by nothing e (is, same) = subst (λ z. TypesNoRecord z b env (map path_as ls)) same (λ aloud F scope G n k at.
        record_lost mid (map path_as ls) n k at b aloud e told rest)

-- the last one of some nodes
pub last_there : (ns : List NodeRef) (n : NodeRef) → slice_get ns (length ns - 1) ≡ Some n → IsLast (numbers ns) n.0
last_there [] n e = absurd (cc)
last_there (m ∷ []) n e = let f : m ≡ n = cc in ap (λ (x : NodeRef). x.0) f
last_there (m ∷ k ∷ ns) n e = last_there (k ∷ ns) n (ap (slice_get (m ∷ k ∷ ns)) (let f : suc (length (k ∷ ns) - 1) ≡ length (m ∷ k ∷ ns) - 1 = omega arith in f) ∙ e)

-- where there is none they are none
pub last_absent : (ns : List NodeRef) (z : ℕ) → slice_get ns (length ns - 1) ≡ None → IsLast (numbers ns) z → ⊥
last_absent [] z e h = h
last_absent (m ∷ []) z e h = cc
last_absent (m ∷ k ∷ ns) z e h = last_absent (k ∷ ns) z (ap (slice_get (m ∷ k ∷ ns)) (let f : suc (length (k ∷ ns) - 1) ≡ length (m ∷ k ∷ ns) - 1 = omega arith in f) ∙ e) h

-- an instance of a label whose record is joined with a type
pub field_taken : (l : Label) (a joining b : Parts) (u : LabelUse) (m : ℕ) → UsesLabel l a joining u → OnlyStore a joining → JoinedIfNodes joining.store b.store u.record.0 m → IsSound b.store.nodes → OnlyStore joining b → Goes joining b → TakesField l a b m u.field.0
field_taken l a joining b u m uses rest joined sound after goes = record {
  made = uses.made;
  joining = joining;
  node = uses.node.0;
  from = u.record.0;
  instance = uses.instance.instance;
  sound = uses.instance.sound;
  rest = rest;
  sides = elim uses.sides [ inl is ↦ inl is | inr (none, mid, made, last) ↦ inr (λ x y inside reads. none x y inside reads) ];
  joined = joined;
  sound_after = sound;
  rest_after = after;
  goes_after = goes;
}

-- an instance of a root over parameters that has no last part, where a new variable is made
pub root_taken_new : (r : Result NodeRef AllocError) (d : Declaration) (a made b : Parts) (node : ℕ) → (IsNode a.store.nodes d.root.0 → Instantiated a.store.nodes made.store.nodes d.root.0 (level_for a.level) node) → (IsNode a.store.nodes d.root.0 → IsSound made.store.nodes) → OnlyStore a made → d.arity ≢ 0 →
    ((ms : List ℕ) (z : ℕ) → IsNode made.store.nodes node → reading made.store.nodes node ≡ Some (Tuple ms) → IsLast ms z → ⊥) → IfOk r (λ m. TakesRoot d a b m.0)
root_taken_new (Err e) d a made b node instance sound rest some none = tt
root_taken_new (Ok m) d a made b node instance sound rest some none = record { made = made; node = node; instance = instance; sound = sound; rest = rest; part = inr (some, inr none) }

-- what labels find, by the cases of the code
pub takes_none : (f : FoundAmong Entry) (e : Entry) (a : Parts) → f ≡ an_entry e → declared_in e.what ≡ None → TakesFound f a a (Some record_type.Open)
takes_none f e a is none = subst (λ x. TakesFound x a a (Some record_type.Open)) (sym is) (subst (λ o. TakesBehind o a a (Some record_type.Open)) (sym none) (refl, refl))

pub takes_known : (f : FoundAmong Entry) (e : Entry) (a b : Parts) (d : Declaration) (r : Rc Declaration Global) (m : NodeRef) → f ≡ an_entry e → declared_in e.what ≡ Some d → r.value ≡ d → TakesRoot d a b m.0 → TakesFound f a b (Some (record_type.Known r m))
takes_known f e a b d r m is some value takes = subst (λ x. TakesFound x a b (Some (record_type.Known r m))) (sym is) (subst (λ o. TakesBehind o a b (Some (record_type.Known r m))) (sym some) (r, m, refl, value, takes))

-- the type of a field, by the cases of the code
pub gives_none : (found : RecordType) (d : Rc Declaration Global) (m : NodeRef) (last : Option Tok) (t : Tok) (a b : Parts) → found ≡ record_type.Known d m → last ≡ Some t → label_here t.name (labels_here d.value.shape) ≡ None → b ≡ a → GivesFieldOf found last a b None
gives_none found d m last t a b is some none same =
    subst (λ r. GivesFieldOf r last a b None) (sym is) (subst (λ o. GivesField (label_written d.value o) a b m.0 None) (sym some) (subst (λ o. GivesField o a b m.0 None) (sym none) (refl, same)))

pub gives_field : (found : RecordType) (d : Rc Declaration Global) (m : NodeRef) (last : Option Tok) (t : Tok) (l : Label) (a mid b : Parts) (field : ℕ) → found ≡ record_type.Known d m → last ≡ Some t → label_here t.name (labels_here d.value.shape) ≡ Some l → mid ≡ a → TakesField l mid b m.0 field →
    GivesFieldOf found last a b (Some field)
gives_field found d m last t l a mid b field is some there same takes =
    subst (λ r. GivesFieldOf r last a b (Some field)) (sym is) (subst (λ o. GivesField (label_written d.value o) a b m.0 (Some field)) (sym some)
    (subst (λ o. GivesField o a b m.0 (Some field)) (sym there) (field, refl, subst (λ z. TakesField l z b m.0 field) same takes)))

pub gives_unwritten : (found : RecordType) (d : Rc Declaration Global) (m : NodeRef) (last : Option Tok) (a : Parts) → found ≡ record_type.Known d m → last ≡ None → GivesFieldOf found last a a None
gives_unwritten found d m last a is none = subst (λ r. GivesFieldOf r last a a None) (sym is) (subst (λ o. GivesField (label_written d.value o) a a m.0 None) (sym none) (refl, refl))

pub gives_open : (found : RecordType) (last : Option Tok) (a : Parts) → found ≡ record_type.Open → GivesFieldOf found last a a None
gives_open found last a is = subst (λ r. GivesFieldOf r last a a None) (sym is) (refl, refl)

-- whether a name is among those of some tokens
pub named_among : (x : Name) (ts : List Tok) → is_named_in x ts ≡ is_among x (names_of_tokens ts)
named_among x [] = refl
named_among x (t ∷ ts) = (let p = names_turned t.name x in let q = named_among x ts in (λ i. p i || q i))

-- the demand that a label is new, by the cases of the code
pub once_unwritten : (found : RecordType) (seen : List Name) (last : Option Tok) (a : Parts) → last ≡ None → AsksNew found seen last a a
once_unwritten (record_type.Known d m) seen last a none = subst (λ o. AsksOnce seen o a a) (sym none) refl
once_unwritten record_type.Open seen last a none = refl

pub once_open : (found : RecordType) (seen : List Name) (last : Option Tok) (a : Parts) → found ≡ record_type.Open → AsksNew found seen last a a
once_open found seen last a is = subst (λ r. AsksNew r seen last a a) (sym is) refl

pub once_kept : (found : RecordType) (d : Rc Declaration Global) (m : NodeRef) (ts : List Tok) (last : Option Tok) (t : Token) (a : Parts) → found ≡ record_type.Known d m → last ≡ Some (tok_of t) → is_named_in (tok_of t).name ts ≡ false → AsksNew found (names_of_tokens ts) last a a
once_kept found d m ts last t a is some new =
    subst (λ r. AsksNew r (names_of_tokens ts) last a a) (sym is) (subst (λ o. AsksOnce (names_of_tokens ts) o a a) (sym some)
    (t.span, refl, subst (λ (v : Bool). TestedAs (not v) a a t.span fault.Unique (twice_text (tok_of t).name)) (sym new ∙ named_among (tok_of t).name ts) refl))

pub once_told : (r : Result Unit AllocError) (found : RecordType) (d : Rc Declaration Global) (m : NodeRef) (ts : List Tok) (last : Option Tok) (t : Token) (a b : Parts) → found ≡ record_type.Known d m → last ≡ Some (tok_of t) → is_named_in (tok_of t).name ts ≡ true →
    OnOk r (Told a.telling (faults_of a) (faults_of b) t.span fault.Unique (twice_text (tok_of t).name)) → OnlyFaults a b → OnOk r (AsksNew found (names_of_tokens ts) last a b)
once_told (Err e) found d m ts last t a b is some again told rest = tt
once_told (Ok x) found d m ts last t a b is some again told rest =
    subst (λ r. AsksNew r (names_of_tokens ts) last a b) (sym is) (subst (λ o. AsksOnce (names_of_tokens ts) o a b) (sym some)
    (t.span, refl, subst (λ (v : Bool). TestedAs (not v) a b t.span fault.Unique (twice_text (tok_of t).name)) (sym again ∙ named_among (tok_of t).name ts) (told, rest)))

-- The beginning of a field, by its two calls.
pub field_begins : (r : Result (Option NodeRef) AllocError) (found : RecordType) (seen : List Name) (p : parts.Written) (a mid b : Parts) → AsksNew found seen p.last a mid → IfOk r (λ o. GivesFieldOf found p.last mid b (option_map (λ (n : NodeRef). n.0) o)) →
    IfOk r (λ o. BeginsField found a b seen p (option_map (λ (n : NodeRef). n.0) o))
field_begins (Err e) found seen p a mid b asks gives = tt
field_begins (Ok o) (record_type.Known d m) seen p a mid b asks gives = field_typed a mid b d.value m.0 seen p (option_map (λ (n : NodeRef). n.0) o) asks gives
field_begins (Ok o) record_type.Open seen p a mid b asks gives = (gives.0, gives.1 ∙ asks)

-- a field that is recorded, with the names of its label and those in scope
pub field_noted : (r : Result Unit AllocError) (a b : Parts) (number : ℕ) (seen : Seen) → seen.ty ≡ None → OnOk r (Noted a.telling a b number seen) → OnlyIndex a b → OnOk r (NotesScope a b (number_in a.item number) seen.env)
field_noted (Err e) a b number seen none noted rest = tt
field_noted (Ok x) a b number seen none noted rest = untyped_scope a b (number_in a.item number) number seen none noted rest refl
