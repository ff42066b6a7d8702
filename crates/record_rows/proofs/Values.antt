-- The fields of a record expression, each after the labels of those before.
use Rattle.std.proofs.Common.{◌≡◌, ◌∙◌, ◌++◌, ℕ, true, List, [], ◌∷◌, Option, Some, None, option_map, refl, sym, ap, subst, append-nil, if◌then◌else◌, arith, append_assoc}
use Rattle.token_model.specs.Kinds.{Tok}
use Rattle.type_model.specs.Types.{Typ}
use Rattle.signature_model.specs.Declarations as rules
use Rattle.signature_model.specs.Declarations.{Name}
use Rattle.typing_model.specs.Demands.{site}
use Rattle.typing_model.specs.Contexts as contexts
use Rattle.typing_model.specs.Contexts.{Choice, Context, tell}
use Rattle.typing_model.specs.Parts.{Written, Expression, Field, place_of}
use Rattle.typing_model.specs.Records.{ask_once, field_type, name_in}
use Rattle.typing_model.specs.Expressions.{value_asks, field_value_asks, fields_ask, names_of_labels, is_some}
use Rattle.type_terms.specs.declared.types.NodeRef.{NodeRef}
use Rattle.env_table.specs.declared.entries.Entry.{Entry}
use Rattle.typing_state.specs.declared.parts.Parts.{Parts}
use Rattle.typing_state.specs.Goes.{Goes}
use Rattle.typing_conditions.specs.Sights.{letter, Letters, Sight}
use Rattle.typing_conditions.specs.Frames.{Frame}
use Rattle.typing_conditions.specs.Carrying.{Scope, Carried, Asks, at_node}
use Rattle.typing_conditions.specs.Surroundings.{Surrounds}
use Rattle.typing_conditions.specs.Hiding.{AreOfRow, AreDone}
use Rattle.typing_conditions.proofs.Carried.{carried_refl, carried_trans, carried_as, done_as, done_then, done_last, carried_row, row_hides}
use Rattle.typing_conditions.proofs.Meaning.{means_on}
use Rattle.typing_conditions.proofs.Recording.{told_at}
use Rattle.typing_conditions.proofs.Surrounding.{surrounds_on, surrounds_sees, surrounds_at, own_node, sees_on}
use Rattle.typing_conditions.proofs.Hiding.{done_none, done_both, owns_row, below_none, below_more}
use Rattle.typing_conditions.proofs.Keeping.{all_among, carried_kept, kept_done, noted_sure}
use Rattle.typing_steps.specs.States.{is_aloud, sight}
use Rattle.typing_steps.specs.Typing.{as_declared, TypesOwn, AsksEqualIf}
use Rattle.typing_steps.specs.Building.{HasIfThere}
use Rattle.typing_rows.specs.Contracts.{TypesAsIf}
use Rattle.record_steps.specs.Alike.{SameRecord}
use Rattle.record_steps.specs.Recording.{AsksNothing, HasScope, NotesNode}
use Rattle.pattern_rows.proofs.Opened.{done_grouped, done_told}
use Rattle.record_rows.specs.Fields.{RecordHere, KnownAs, BeginsField, chosen_in}
use Rattle.record_rows.specs.Values.{value_asked, TypesValue, TypesFields, TypesValuesFirst, FieldsWritten, FieldsWrittenFirst, TypesLabelled}
use Rattle.record_rows.proofs.Opened.{scope_on}
use Rattle.record_rows.proofs.Fields.{known_on, is_there, type_in, field_is, has_on, field_begun, type_same}

-- an expression as a value; the field's node is recorded before
pub given_value : (a b : Parts) (env : List Entry) (k : ℕ) (l : Written) (e : Expression) (ty : Option ℕ) → (is_aloud a.telling ≡ true → HasScope (sight a) k env) → TypesAsIf a b env e ty → TypesValue a b env (record { node = k; label = l; value = Some e }) ty
given_value a b env k l e None recorded typed aloud F scope G None its names has = let x = typed aloud F scope G names in record { letters = []; carried = x; done = done_none; scoped = scope_on x.stays (recorded aloud) }
given_value a b env k l e (Some m) recorded typed aloud F scope G (Some t) its names has = let x = typed aloud F scope G k 2 t its names has in record { letters = []; carried = x; done = done_none; scoped = scope_on x.stays (recorded aloud) }
given_value a b env k l e (Some m) recorded typed aloud F scope G None its names has = absurd has
given_value a b env k l e None recorded typed aloud F scope G (Some t) its names has = absurd has

-- what is asked of the name of a label as a value, with the letter of the field's node k, which isn't noted yet
pun_asked : (a b d : Parts) (env : List Entry) (k : ℕ) (qs : List Tok) (x : Tok) (m : ℕ) (wanted : Option NodeRef) → TypesOwn a b env (λ c t. value_asks c k 1 (record { qualifiers = []; last = Some x }) t) m → Goes a b → AsksEqualIf b d env (place_of x) m wanted →
    is_aloud a.telling ≡ true → (F : Frame) (scope : Scope) (G : Letters) (t : Option (Choice → Typ)) → scope.own k ≡ true → Surrounds as_declared F (sight a) G env scope → HasIfThere F (sight a) G t (option_map (λ (w : NodeRef). w.0) wanted) →
    Carried F scope (λ c. value_asked c (record { node = k; label = record { qualifiers = qs; last = Some x }; value = None }) (chosen_in c t)) (sight a) G (sight d) ((letter k 0, m) ∷ G)
pun_asked a b d env k qs x m None typed goes asked aloud F scope G None its names has =
    let y = typed aloud F scope G (letter k 0) (λ t. tt) names in
    subst (λ (z : Parts). Carried F scope (λ c. value_asks c k 1 (record { qualifiers = []; last = Some x }) (contexts.letter c k 0) ++ []) (sight a) G (sight z) ((letter k 0, m) ∷ G)) (sym asked)
    (carried_as (λ c. sym (append-nil (value_asks c k 1 (record { qualifiers = []; last = Some x }) (contexts.letter c k 0)))) y.carried)
pun_asked a b d env k qs x m (Some w) typed goes asked aloud F scope G (Some t) its names has =
    let y = typed aloud F scope G (letter k 0) (λ t. tt) names in
    let z = asked (ap is_aloud goes.telling ∙ aloud) F scope ((letter k 0, m) ∷ G) (site k 2) (λ ch. ch.letter k 0) t its (sees_on scope y.carried.stays names.reached (surrounds_sees names)) y.means (means_on y.carried.stays has) in
    carried_trans y.carried z
pun_asked a b d env k qs x m None typed goes asked aloud F scope G (Some t) its names has = absurd has
pun_asked a b d env k qs x m (Some w) typed goes asked aloud F scope G None its names has = absurd has

-- its letter belongs to its row alone
letter_of_row : (k m : ℕ) → AreOfRow k ((letter k 0, m) ∷ [])
letter_of_row k m = (below_more 0 1 m (omega arith) (omega arith) (below_none k 0)).of_row

-- The name of a label as a value, once the field's node is noted.
pub punned_value : (a b d e : Parts) (env : List Entry) (k : ℕ) (qs : List Tok) (x : Tok) (m : ℕ) (wanted : Option NodeRef) → TypesOwn a b env (λ c t. value_asks c k 1 (record { qualifiers = []; last = Some x }) t) m → Goes a b → AsksEqualIf b d env (place_of x) m wanted → NotesNode d e k env →
    TypesValue a e env (record { node = k; label = record { qualifiers = qs; last = Some x }; value = None }) (option_map (λ (w : NodeRef). w.0) wanted)
punned_value a b d e env k qs x m wanted typed goes asked noted aloud F scope G t its names has =
    let p = pun_asked a b d env k qs x m wanted typed goes asked aloud F scope G t its names has in
    let letters : Letters = (letter k 0, m) ∷ [] in
    let w = noted.asks F scope (letters ++ G) in
    let sure = noted_sure letters p w (noted.hides F scope (letters ++ G)) (noted.notes (p.stays.aloud ∙ aloud) m) (owns_row (letter_of_row k m)) in
    let kept = carried_kept letters letters (all_among letters) (carried_trans p w) sure in
    record {
      letters = letters;
      carried = carried_as (λ c. append-nil (value_asked c (record { node = k; label = record { qualifiers = qs; last = Some x }; value = None }) (chosen_in c t))) kept;
      done = done_as _ kept (kept_done letters (carried_trans p w) sure (letter_of_row k m).sure);
      scoped = noted.scope (p.stays.aloud ∙ aloud);
    }

-- whether a declaration is found, in the words of both
found_so : (found : Option rules.Declaration) → is_there found ≡ is_some found
found_so None = refl
found_so (Some d) = refl

-- no field yet
pub values_none : (a : Parts) (env : List Entry) (here : RecordHere) (labels : List Name) (fs : List Field) → TypesValuesFirst a a env here labels fs fs labels
values_none a env here labels fs = λ aloud F scope G n found s known. record { letters = []; done = λ c. []; carried = carried_refl; rows_done = λ all_known. done_none; asks = λ c. refl }

-- what the calls of a field ask is what the definitions do
value_is : (c : Context) (n : ℕ) (found : Option rules.Declaration) (f : Field) (labels : List Name) →
    tell f.node c ++ (((if is_there found then ask_once f.node 0 labels f.label else []) ++ []) ++ value_asked c f (chosen_in c (type_in n f.node found f.label))) ≡ field_value_asks c (is_some found) f labels (field_type c n f.node found f.label)
value_is c n found f labels =
    let e = append-nil (if is_there found then ask_once f.node 0 labels f.label else []) in
    let t = field_is c n f.node found f.label in
    let q = found_so found in
    (λ i. tell f.node c ++ (e i ++ value_asked c f (t i))) ∙ (λ i. (tell f.node c ++ (if q i then ask_once f.node 0 labels f.label else [])) ++ value_asked c f (field_type c n f.node found f.label))

-- a field, with the letters of its row, and those of the record for it, of which there is none where all of names is known
record ValueStep (F : Frame) (scope : Scope) (asks : Asks) (a : Sight) (G : Letters) (b : Sight) : Type 0 where
  letters : Letters
  carried : Carried F scope asks a G b (letters ++ G)
  done : F.known ≡ true → AreDone b carried.hidden letters

-- One field, whatever is known of its record; its node is recorded by its end.
value_step : (b mid told d : Parts) (env : List Entry) (here : RecordHere) (f : Field) (labels : List Name) (ty : Option ℕ) → Goes b mid → Goes mid told → BeginsField here b mid labels f.label ty → AsksNothing mid told → TypesValue told d env f ty →
    is_aloud b.telling ≡ true → (F : Frame) (scope : Scope) (H : Letters) (n : ℕ) (found : Option rules.Declaration) → Surrounds as_declared F (sight b) H env scope → KnownAs F (sight b) H n here found →
    ValueStep F scope (λ c. field_value_asks c (is_some found) f labels (field_type c n f.node found f.label)) (sight b) H (sight d)
value_step b mid told d env here f labels ty goes' goes'' begins noted value loud F scope H n found s known =
    let louder : is_aloud told.telling ≡ true = ap is_aloud goes''.telling ∙ ap is_aloud goes'.telling ∙ loud in
    let inner = at_node f.node scope in
    let y = field_begun b mid {scope = inner} n f.node here found labels f.label ty loud known begins in
    let z = noted F inner (y.letters ++ H) in
    let begun = carried_trans y.carried z in
    let w = value louder F inner (y.letters ++ H) (type_in n f.node found f.label) (own_node f.node) (surrounds_at f.node (surrounds_on begun.stays s)) (has_on (type_in n f.node found f.label) ty z.stays y.has_type) in
    let both = carried_trans begun w.carried in
    let sees = surrounds_sees s in
    let from_start = told_at f.node w.scoped.number both w.scoped.at sees in
    let row = carried_row {scope = scope} f.node from_start in
    let step = carried_as {others = λ c. field_value_asks c (is_some found) f labels (field_type c n f.node found f.label)} (λ c. value_is c n found f labels) row in
    let same = sym (append_assoc w.letters y.letters H) in
    let whole = subst (λ J. Carried F scope (λ c. field_value_asks c (is_some found) f labels (field_type c n f.node found f.label)) (sight b) H (sight d) J) same step in
    record {
      letters = w.letters ++ y.letters;
      carried = whole;
      done = λ all_known. subst (λ zs. AreDone (sight d) whole.hidden (w.letters ++ zs)) (sym (y.none all_known))
          (done_both (done_grouped same step (done_as (λ c. value_is c n found f labels) row (subst (λ zs. AreDone (sight d) zs w.letters) (sym (row_hides scope f.node from_start)) (done_told f.node w.scoped.number both w.scoped.at sees (done_last begun w.carried w.done))))) done_none);
    }

-- One field more: its beginning, the record of its node, and its value.
pub values_more : (a b d : Parts) (env : List Entry) (here : RecordHere) (labels : List Name) (all left rest : List Field) (f : Field) (now later : List Name) → left ≡ f ∷ rest → Goes a b → TypesValuesFirst a b env here labels all left now →
    TypesLabelled b d env here f now later → TypesValuesFirst a d env here labels all rest later
values_more a b d env here labels all left rest f now later split goes first one = λ aloud F scope G n found s known.
    let x = first aloud F scope G n found s known in
    let asks = λ (c : Context). field_value_asks c (is_some found) f now (field_type c n f.node found f.label) in
    let z = value_step b one.mid one.told d env here f now one.type one.goes_mid one.goes_told one.begins one.noted one.value (ap is_aloud goes.telling ∙ aloud) F scope (x.letters ++ G) n found (surrounds_on x.carried.stays s) (known_on n here found x.carried.stays known) in
    record {
      letters = z.letters ++ x.letters;
      done = λ c. x.done c ++ asks c;
      carried = subst (λ J. Carried F scope (λ c. x.done c ++ asks c) (sight a) G (sight d) J) (sym (append_assoc z.letters x.letters G)) (carried_trans x.carried z.carried);
      rows_done = λ all_known. done_grouped (sym (append_assoc z.letters x.letters G)) (carried_trans x.carried z.carried) (done_both (done_last x.carried z.carried (z.done all_known)) (done_then x.carried z.carried (x.rows_done all_known)));
      asks = λ c.
          x.asks c ∙ ap (λ fs. x.done c ++ fields_ask c n found fs now) split ∙ sym (append_assoc (x.done c) (asks c) (fields_ask c n found rest (now ++ name_in f.label))) ∙ ap (λ ls. (x.done c ++ asks c) ++ fields_ask c n found rest ls) (sym one.labelled);
    }

-- all fields
pub values_all : (a b : Parts) (env : List Entry) (here : RecordHere) (labels : List Name) (all left : List Field) (now : List Name) → left ≡ [] → TypesValuesFirst a b env here labels all left now → TypesFields a b env here labels all
values_all a b env here labels all left now none first = λ aloud F scope G n found s known.
    let x = first aloud F scope G n found s known in
    record { letters = x.letters; carried = carried_as (λ c. sym (append-nil (x.done c)) ∙ ap (λ fs. x.done c ++ fields_ask c n found fs now) (sym none) ∙ sym (x.asks c)) x.carried; done = λ all_known. done_as _ x.carried (x.rows_done all_known) }

-- with the labels that are written: no field yet
pub written_none : (a : Parts) (env : List Entry) (here : RecordHere) (labels : List Name) (fs : List Field) → FieldsWrittenFirst a a env here fs fs labels labels
written_none a env here labels fs = record { typed = values_none a env here labels fs; written = refl }

-- one field more
pub written_more : (a b d : Parts) (env : List Entry) (here : RecordHere) (all left rest : List Field) (f : Field) (labels now later : List Name) → left ≡ f ∷ rest → Goes a b → FieldsWrittenFirst a b env here all left labels now → TypesLabelled b d env here f now later →
    FieldsWrittenFirst a d env here all rest labels later
written_more a b d env here all left rest f labels now later split goes first one = record {
  typed = values_more a b d env here labels all left rest f now later split goes first.typed one;
  written = first.written ∙ ap (λ fs. now ++ names_of_labels fs) split ∙ sym (append_assoc now (name_in f.label) (names_of_labels rest)) ∙ ap (λ ls. ls ++ names_of_labels rest) (sym one.labelled);
}

-- all fields
pub written_all : (a b : Parts) (env : List Entry) (here : RecordHere) (all left : List Field) (labels now : List Name) → left ≡ [] → FieldsWrittenFirst a b env here all left labels now → FieldsWritten a b env here all labels now
written_all a b env here all left labels now none first = record {
  typed = values_all a b env here labels all left now none first.typed;
  written = sym (append-nil now) ∙ ap (λ fs. now ++ names_of_labels fs) (sym none) ∙ sym first.written;
}

-- the first of some fields, and those after it
pub written_then : (a b d : Parts) (env : List Entry) (here : RecordHere) (f : Field) (fs : List Field) (labels now later : List Name) → TypesLabelled a b env here f labels now → Goes a b → FieldsWritten b d env here fs now later → FieldsWritten a d env here (f ∷ fs) labels later
written_then a b d env here f fs labels now later one goes all = record {
  typed = λ aloud F scope G n found s known.
      let asks = λ (c : Context). field_value_asks c (is_some found) f labels (field_type c n f.node found f.label) in
      let z = value_step a one.mid one.told b env here f labels one.type one.goes_mid one.goes_told one.begins one.noted one.value aloud F scope G n found s known in
      let x = all.typed (ap is_aloud goes.telling ∙ aloud) F scope (z.letters ++ G) n found (surrounds_on z.carried.stays s) (known_on n here found z.carried.stays known) in
      let both = carried_trans z.carried x.carried in
      let whole : Carried F scope (λ c. fields_ask c n found (f ∷ fs) labels) (sight a) G (sight d) (x.letters ++ (z.letters ++ G)) = carried_as (λ c. ap (λ ls. asks c ++ fields_ask c n found fs ls) one.labelled) both in
      record {
        letters = x.letters ++ z.letters;
        carried = subst (λ J. Carried F scope (λ c. fields_ask c n found (f ∷ fs) labels) (sight a) G (sight d) J) (sym (append_assoc x.letters z.letters G)) whole;
        done = λ all_known. done_grouped (sym (append_assoc x.letters z.letters G)) whole (done_as _ both (done_both (done_last z.carried x.carried (x.done all_known)) (done_then z.carried x.carried (z.done all_known))));
      };
  written = all.written ∙ ap (λ ls. ls ++ names_of_labels fs) one.labelled ∙ append_assoc labels (name_in f.label) (names_of_labels fs);
}

-- declarations that are one as records ask the same of fields
pub values_same : (c : Context) (n : ℕ) (d e : rules.Declaration) → SameRecord d e → (fs : List Field) (labels : List Name) → fields_ask c n (Some d) fs labels ≡ fields_ask c n (Some e) fs labels
values_same c n d e s [] labels = refl
values_same c n d e s (f ∷ fs) labels =
    let t = type_same c n f.node d e s f.label in
    let later = values_same c n d e s fs (labels ++ name_in f.label) in
    (λ i. field_value_asks c true f labels (t i) ++ later i)
