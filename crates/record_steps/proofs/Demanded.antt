-- The demand that labels have a record type: the code and the definitions find the same, and lose the same qualifier.
use Rattle.std.proofs.Common.{◌≡◌, ◌∙◌, ℕ, ◌+◌, Bool, true, false, List, [], ◌∷◌, Option, Some, None, refl, sym, ap, subst, arith, if◌then◌else◌}
use Rattle.std.specs.Prelude.{slice_get}
use Rattle.token_model.specs.Kinds.{Tok}
use Rattle.type_model.specs.Schemes.{Scheme}
use Rattle.signature_model.specs.Declarations as rules
use Rattle.signature_model.specs.Entries.{Environment}
use Rattle.typing_model.specs.Demands.{site, demand, test, label_word}
use Rattle.typing_model.specs.Messages.{complaint_text}
use Rattle.typing_model.specs.Contexts.{Context, ask, is_kept}
use Rattle.typing_model.specs.Parts as parts
use Rattle.typing_model.specs.Names as names
use Rattle.typing_model.specs.Names.{then_by, place_unbound, complaint_unbound, is_found}
use Rattle.typing_model.specs.Records.{ask_record, first_lost, first_token, record_found, declaration_found, labels_of}
use Rattle.typing_model.specs.Patterns.{kept_record}
use Rattle.type_nodes.specs.Nodes.{Node}
use Rattle.type_nodes.specs.Readings.{Types}
use Rattle.env_table.specs.declared.entries.Entry.{Entry}
use Rattle.env_table.specs.declared.faults.FaultKind.TheVariants as fault
use Rattle.typing_conditions.specs.Environments.{EnvAs}
use Rattle.typing_conditions.specs.Standing.{IsIn}
use Rattle.typing_conditions.specs.Assumptions.{SchemeFits}
use Rattle.typing_conditions.proofs.Own.{own_of}
use Rattle.typing_conditions.specs.Declared.{DeclaredAs, ExceptionAs}
use Rattle.typing_state.specs.declared.parts.Parts.{Parts}
use Rattle.typing_state.specs.declared.messages.Word.TheVariants as word
use Rattle.typing_state.specs.Bound.{lost_among, TellsLost}
use Rattle.typing_state.specs.Goes.{OnlyFaults}
use Rattle.typing_conditions.specs.Sights.{Sight, Letters}
use Rattle.typing_conditions.specs.Frames.{Frame}
use Rattle.typing_conditions.specs.Judging.{judged_at, AreKept}
use Rattle.typing_conditions.specs.Steps.{Tells}
use Rattle.typing_conditions.specs.Carrying.{Scope, Carried}
use Rattle.typing_conditions.specs.Surroundings.{Surrounds}
use Rattle.typing_conditions.proofs.Carried.{carried_refl}
use Rattle.typing_steps.specs.States.{is_aloud, reports_of, sight}
use Rattle.typing_steps.specs.Demands.{JudgedAs, is_found_here}
use Rattle.typing_steps.specs.Typing.{as_declared}
use Rattle.typing_steps.proofs.Seeing.{only_reports, same_state}
use Rattle.typing_steps.proofs.Still.{none_idle, carried_idle}
use Rattle.typing_steps.proofs.Testing.{AreSameHere, carried_here, judged_here, test_held, test_reported}
use Rattle.typing_steps.proofs.Finding.{lost_so, found_so, tells_unbound}
use Rattle.record_steps.specs.Recording.{lost_of, found_here, TellsNone}
use Rattle.record_steps.proofs.Declared.{labels_alike}

-- where no label is written none of its qualifiers counts
none_lost : (E : Environment) (ps : List parts.Written) → first_token ps ≡ None → first_lost E ps ≡ None
none_lost E [] e = refl
none_lost E (p ∷ ps) e = by p.last refl (none_lost E ps)
  where
    by : (o : Option Tok) → p.last ≡ o → (first_token ps ≡ None → first_lost E ps ≡ None) → first_lost E (p ∷ ps) ≡ None
    by None f later = let g : first_token ps ≡ None = sym (ap (λ o. elim o [ None ↦ first_token ps | Some t ↦ Some t ]) f) ∙ e in
        ap (λ o. elim (then_by o (λ t. names.lost_behind E [] p.qualifiers)) [ None ↦ first_lost E ps | Some q ↦ Some q ]) f ∙ later g
    by (Some t) f later = absurd (let g : Some t ≡ None = sym (ap (λ o. elim o [ None ↦ first_token ps | Some x ↦ Some x ]) f) ∙ e in cc)

-- then nothing is asked
pub nothing_asked : (c : Context) (n k : ℕ) (ps : List parts.Written) → first_token ps ≡ None → ask_record c n k ps ≡ []
nothing_asked c n k ps e = rw (none_lost c.env ps e, e, ask_record) refl

-- where one is written it is the demand of a path to it
pub one_asked : (c : Context) (n k : ℕ) (ps : List parts.Written) (t : Tok) → first_token ps ≡ Some t →
    ask_record c n k ps ≡ ask n k (place_unbound (first_lost c.env ps) t) (test (complaint_unbound (first_lost c.env ps) label_word t) (is_found (record_found c ps)))
one_asked c n k ps t e = by (first_lost c.env ps) refl
  where
    by : (o : Option Tok) → first_lost c.env ps ≡ o → ask_record c n k ps ≡ ask n k (place_unbound (first_lost c.env ps) t) (test (complaint_unbound (first_lost c.env ps) label_word t) (is_found (record_found c ps)))
    by None f = rw (f, e, ask_record) refl
    by (Some q) f = rw (f, ask_record) refl

-- the first qualifier that names no module is the same one
lost_labels : (R : ℕ → Scheme → Type 0) (nodes : List Node) (C : List ℕ) (N : Types) (es : List Entry) (fs : Environment) → EnvAs R (DeclaredAs nodes C N) (ExceptionAs nodes C N) es fs → (ps : List parts.Written) → lost_of es ps ≡ first_lost fs ps
lost_labels R nodes C N es fs h [] = refl
lost_labels R nodes C N es fs h (p ∷ ps) =
    let same : lost_among es p.qualifiers ≡ names.lost_behind fs [] p.qualifiers =
    lost_so R (DeclaredAs nodes C N) (ExceptionAs nodes C N) es fs h p.qualifiers [] 0 p.qualifiers (λ j. ap (slice_get p.qualifiers) (let e : 0 + j ≡ j = omega arith in e)) in
    let later = lost_labels R nodes C N es fs h ps in
    (λ i. elim (then_by p.last (λ t. same i)) [ None ↦ later i | Some q ↦ Some q ])

-- The demand of labels is carried, and judged so, where one is written.
pub record AsksLabels (F : Frame) (scope : Scope) (a : Sight) (G : Letters) (b : Sight) (n k : ℕ) (ps : List parts.Written) (v : Bool) : Type 0 where
  pub carried : Carried F scope (λ c. ask_record c n k ps) a G b G
  pub verdict : (t : Tok) → first_token ps ≡ Some t → carried.judged ≡ judged_at (site n k) v false ∷ []

-- what the record type is, where the demand is judged so
abbrev pub record_by_verdict : Context → List parts.Written → Bool → Option rules.Declaration
record_by_verdict c ps v = elim (first_token ps) [ None ↦ declaration_found c ps | Some t ↦ if v then declaration_found c ps else None ]

-- it is what the definitions take
pub kept_as : {F : Frame} {scope : Scope} {a b : Sight} {G : Letters} {n k : ℕ} {ps : List parts.Written} {v : Bool} (p : AsksLabels F scope a G b n k ps v) (c : Context) → AreKept c.kept p.carried.judged → kept_record c n k ps ≡ record_by_verdict c ps v
kept_as {n = n} {k = k} {ps = ps} {v = v} p c h = by (first_token ps) refl
  where
    either : (b : Bool) → (if b then declaration_found c ps else declaration_found c ps) ≡ declaration_found c ps
    either true = refl
    either false = refl

    by : (o : Option Tok) → first_token ps ≡ o →
        (if is_kept c n k then declaration_found c ps else elim o [ None ↦ declaration_found c ps | Some t ↦ None ]) ≡ elim o [ None ↦ declaration_found c ps | Some t ↦ if v then declaration_found c ps else None ]
    by None e = either (is_kept c n k)
    by (Some t) e = let j : AreKept c.kept (judged_at (site n k) v false ∷ []) = subst (AreKept c.kept) (p.verdict t e) h in ap (λ (b : Bool). if b then declaration_found c ps else None) j.0

-- Labels were looked for.
module _ {F : Frame} {scope : Scope} {G : Letters} {env : List Entry} (a : Parts) (ps : List parts.Written) (n k : ℕ) (at : Surrounds as_declared F (sight a) G env scope) where
  -- the definitions' demand is that of the code's names, in each context
  same_demand : (t : Tok) → first_token ps ≡ Some t → AreSameHere F scope (sight a) G
      (λ c. demand (site n k) (place_unbound (lost_of env ps) t) (test (complaint_unbound (lost_of env ps) label_word t) (is_found_here (found_here env ps))) ∷ []) (λ c. ask_record c n k ps)
  same_demand t first V c loose under agrees named =
      let own = own_of a.store.nodes at.reached.sound in
      let stands = (at.fits own.0 V c.chosen own.1 loose agrees named).names in
      let R : ℕ → Scheme → Type 0 = λ r sc. SchemeFits a.store.nodes V r sc × IsIn at.roots r in
      let lost : lost_of env ps ≡ first_lost c.env ps = lost_labels R a.store.nodes at.roots at.names env (scope.env c.chosen) stands ps ∙ ap (λ E. first_lost E ps) (sym under.env) in
      let found : is_found_here (found_here env ps) ≡ is_found (record_found c ps) =
      found_so R (DeclaredAs a.store.nodes at.roots at.names) (ExceptionAs a.store.nodes at.roots at.names) (labels_alike R (DeclaredAs a.store.nodes at.roots at.names) (ExceptionAs a.store.nodes at.roots at.names) (λ d e h. h.defines) (labels_of ps) stands) ∙ ap (λ E. is_found (record_found (record c { env = E }) ps)) (sym under.env) in
      (λ i. demand (site n k) (place_unbound (lost i) t) (test (complaint_unbound (lost i) label_word t) (found i)) ∷ []) ∙ sym (one_asked c n k ps t first)

  -- they find something, a hole included
  pub labels_held : is_found_here (found_here env ps) ≡ true → AsksLabels F scope (sight a) G (sight a) n k ps true
  labels_held found = by (first_token ps) refl
    where
      by : (o : Option Tok) → first_token ps ≡ o → AsksLabels F scope (sight a) G (sight a) n k ps true
      by None e = record { carried = carried_here (λ V c loose under agrees named. sym (nothing_asked c n k ps e)) carried_refl; verdict = λ t f. absurd (let g : None ≡ Some t = sym e ∙ f in cc) }
      by (Some t) e =
          let one : JudgedAs F scope (λ c. demand (site n k) (place_unbound (lost_of env ps) t) (test (complaint_unbound (lost_of env ps) label_word t) true) ∷ []) (sight a) G (sight a) G (site n k) true =
          test_held (complaint_unbound (lost_of env ps) label_word t) (site n k) (same_state a a refl) refl in
          let here = judged_here (subst (λ v. AreSameHere F scope (sight a) G (λ c. demand (site n k) (place_unbound (lost_of env ps) t) (test (complaint_unbound (lost_of env ps) label_word t) v) ∷ []) (λ c. ask_record c n k ps)) found (same_demand t e)) one in
          record { carried = here.carried; verdict = λ x f. here.verdict }

  -- they find nothing, which is reported where one is written
  pub labels_refused : (b : Parts) → is_aloud a.telling ≡ true → is_found_here (found_here env ps) ≡ false → TellsNone (lost_of env ps) (first_token ps) a b → OnlyFaults a b → AsksLabels F scope (sight a) G (sight b) n k ps false
  labels_refused b aloud found tells rest = by (first_token ps) refl tells
    where
      lost_tells : (o : Option Tok) (t : Tok) → TellsLost o a b t word.Label → Tells (sight a) (sight b) (place_unbound o t) fault.Bound (complaint_text (complaint_unbound o label_word t))
      lost_tells None t told = tells_unbound a b word.Label t.name aloud told
      lost_tells (Some q) t told = tells_unbound a b word.Module q.name aloud told

      reported : (o : Option Tok) (t : Tok) → TellsLost o a b t word.Label → JudgedAs F scope (λ c. demand (site n k) (place_unbound o t) (test (complaint_unbound o label_word t) false) ∷ []) (sight a) G (sight b) G (site n k) false
      reported None t told = test_reported (complaint_unbound None label_word t) (site n k) (only_reports a b rest) (lost_tells None t told)
      reported (Some q) t told = test_reported (complaint_unbound (Some q) label_word t) (site n k) (only_reports a b rest) (lost_tells (Some q) t told)

      by : (o : Option Tok) → first_token ps ≡ o → TellsNone (lost_of env ps) o a b → AsksLabels F scope (sight a) G (sight b) n k ps false
      by None e told = record {
        carried = carried_here (λ V c loose under agrees named. sym (nothing_asked c n k ps e)) (carried_idle none_idle (only_reports a b rest) (ap reports_of told));
        verdict = λ t f. absurd (let g : None ≡ Some t = sym e ∙ f in cc);
      }
      by (Some t) e told =
          let here = judged_here (subst (λ v. AreSameHere F scope (sight a) G (λ c. demand (site n k) (place_unbound (lost_of env ps) t) (test (complaint_unbound (lost_of env ps) label_word t) v) ∷ []) (λ c. ask_record c n k ps)) found (same_demand t e)) (reported (lost_of env ps) t told) in
          record { carried = here.carried; verdict = λ x f. here.verdict }
