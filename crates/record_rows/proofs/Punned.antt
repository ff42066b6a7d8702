-- A field without a pattern of its own binds the name of its label, whose type is that of the field's node: a letter that stays open.
use Rattle.std.proofs.Common.{◌≡◌, ◌∙◌, ◌++◌, ℕ, zero, suc, true, List, [], ◌∷◌, take, Option, Some, None, refl, sym, ap, subst, append-nil}
use Rattle.token_model.specs.Kinds.{Tok}
use Rattle.type_model.specs.Types.{Typ}
use Rattle.signature_model.specs.Declarations.{Name, in_text}
use Rattle.signature_model.specs.Matching.{IsKnown}
use Rattle.typing_model.specs.Demands.{same, known}
use Rattle.typing_model.specs.Contexts as contexts
use Rattle.typing_model.specs.Contexts.{Choice, Context}
use Rattle.typing_model.specs.Parts.{place_of}
use Rattle.typing_model.specs.Patterns.{ask_fresh}
use Rattle.type_terms.specs.declared.types.NodeRef.{NodeRef}
use Rattle.env_table.specs.declared.entries.Entry.{Entry}
use Rattle.typing_state.specs.declared.parts.Parts.{Parts}
use Rattle.typing_conditions.specs.Sights.{Sight, Key, without_unknown, value_of, Letters, IsKnownFor, own}
use Rattle.typing_conditions.specs.Frames.{Frame, IsOpen}
use Rattle.typing_conditions.specs.Meanings.{Means}
use Rattle.typing_conditions.specs.Judging.{judgements}
use Rattle.typing_conditions.specs.Carrying.{Scope, Stays, Carried}
use Rattle.typing_conditions.specs.Surroundings.{Surrounds, IsEntry}
use Rattle.typing_conditions.specs.Hiding.{is_doubtful, NoneDoubtful, Owns}
use Rattle.typing_conditions.proofs.Carried.{carried_trans, carried_as, take_none, done_as}
use Rattle.typing_conditions.proofs.Framing.{open_on}
use Rattle.typing_conditions.proofs.Meaning.{means_on}
use Rattle.typing_conditions.proofs.Behind.{IsTail, carried_behind}
use Rattle.typing_conditions.proofs.Stays.{stays_trans, stays_opened, agrees_before}
use Rattle.typing_steps.specs.States.{is_aloud, sight}
use Rattle.typing_steps.specs.Typing.{as_declared}
use Rattle.typing_steps.specs.Building.{HasIfThere}
use Rattle.pattern_rows.specs.Bounds.{Bind, AllBound, none_bound, one_bound}
use Rattle.record_rows.specs.Fields.{GivesType, FieldEnded, PunsName, Puns, FieldAdds}
use Rattle.typing_conditions.proofs.Hiding.{done_none, owns_also, owns_node}
use Rattle.typing_conditions.proofs.Keeping.{all_among, carried_kept, kept_done, noted_sure}

-- What a letter stands for is asked to be of no unknown type: it is of none from then on.
known_tail : {F : Frame} {b : Sight} {H : Letters} {m : ℕ} (key : Key) → Means F b H (λ ch. value_of ch key) m → IsTail F b H ((without_unknown key, m) ∷ []) (λ ch. value_of ch key) (λ c. [])
known_tail {F} {b} {H} {m} key p = record {
  opens = stays_opened (without_unknown key) p.open_node.inside;
  holds = λ V c loose g. (subst IsKnown (sym g.given.0.is) g.given.0.known, tt);
  gives = λ V c loose g h. let is = p.is V c.chosen loose g in (record { is = is; known = subst IsKnown is h.0 }, tt);
  silent = λ c. refl;
  silent_first = λ k c. ap (judgements c.kept) (take_none k);
  reports_none = λ c. refl;
  treats = λ c. refl;
}

-- The same, and then that it is the type of a node.
made_tail : {F : Frame} {b : Sight} {H : Letters} {m : ℕ} {type : Choice → Typ} (key : Key) → ((x : Typ) → IsKnownFor key x) → Means F b H type m →
    IsTail F b H ((without_unknown key, m) ∷ (key, m) ∷ []) (λ ch. value_of ch key) (λ c. same (value_of c.chosen key) (type c.chosen) ∷ [])
made_tail {F} {b} {H} {m} {type} key free p = record {
  opens = opens;
  holds = λ V c loose g. (subst IsKnown (sym g.given.0.is) g.given.0.known, (g.given.1.0.is ∙ sym (p.is V c.chosen loose (agrees_before opens g)), tt));
  gives = λ V c loose g h. let is = h.1.0 ∙ p.is V c.chosen loose g in (record { is = is; known = subst IsKnown is h.0 }, (record { is = is; known = free (V m) }, tt));
  silent = λ c. refl;
  silent_first = silent;
  reports_none = λ c. refl;
  treats = λ c. refl;
}
  where
    opens : Stays F b H b ((without_unknown key, m) ∷ (key, m) ∷ H)
    opens = stays_trans (stays_opened key p.open_node.inside) (stays_opened (without_unknown key) p.open_node.inside)

    silent : (k : ℕ) (c : Context) → judgements c.kept (take k (same (value_of c.chosen key) (type c.chosen) ∷ [])) ≡ []
    silent zero c = refl
    silent (suc k) c = ap (judgements c.kept) (take_none k)

-- the name of a label, once its type is that of the field's node, in which no unknown type stands
name_bound : {F : Frame} {d : Sight} {K : Letters} {e : Entry} (k : ℕ) (t : Tok) (ty : NodeRef) → IsEntry e t.name (in_text (place_of t)) ty → IsOpen F d ty.0 →
    AllBound F d ((without_unknown (own k), ty.0) ∷ (own k, ty.0) ∷ K) (record { name = t.name; place = place_of t; has_type = λ c. contexts.type_at c k } ∷ []) (record { token = t; node = ty; entry = e } ∷ [])
name_bound k t ty entry here = one_bound (record {
  named = refl;
  placed = refl;
  chosen = λ c. refl;
  means = record { open_node = here; is = λ V ch loose g. g.given.1.0.is };
  known = λ V ch g. g.given.0.known;
  entry = entry;
}) none_bound

-- its two letters are for the type of its node, and not in doubt
both_sure : (k m : ℕ) → NoneDoubtful ((without_unknown (own k), m) ∷ (own k, m) ∷ [])
both_sure k m zero x e = let s : (without_unknown (own k), m) ≡ x = cc in ap (λ (y : Key × ℕ). is_doubtful y.0) (sym s)
both_sure k m (suc zero) x e = let s : (own k, m) ≡ x = cc in ap (λ (y : Key × ℕ). is_doubtful y.0) (sym s)
both_sure k m (suc (suc i)) x e = absurd (cc)

-- so it owns them
both_owned : {b : Sight} {hidden : Letters} (k m : ℕ) → Owns k m b hidden ((without_unknown (own k), m) ∷ (own k, m) ∷ [])
both_owned k m = owns_also (without_unknown (own k)) refl refl (owns_node (own k) refl refl)

-- A field whose label is there: its name is new, its type is the field's, or any type where that isn't known.
module _ (a d : Parts) (env : List Entry) (k : ℕ) (qs : List Tok) (t : Tok) (names names' : List Bind) (seen seen' : List Name) where
  -- faults are reported when it is noted
  between_aloud : {wanted : Option ℕ} (x : PunsName a d env k t wanted names names' seen seen') → is_aloud a.telling ≡ true → is_aloud x.binds.between.telling ≡ true
  between_aloud x aloud = ap is_aloud x.binds.goes.telling ∙ ap is_aloud x.goes.telling ∙ aloud

  -- its name, and the letters
  pun_named : (wanted : Option ℕ) (x : PunsName a d env k t wanted names names' seen seen') → is_aloud a.telling ≡ true → (F : Frame) (scope : Scope) (G : Letters) (n : ℕ) (o : Option (Choice → Typ)) → Surrounds as_declared F (sight a) G env scope → HasIfThere F (sight a) G o wanted →
      GivesType wanted a x.mid x.ty.0 → FieldEnded env F scope (sight a) G (sight d) n (record { node = k; label = record { qualifiers = qs; last = Some t }; pattern = None }) seen o (record { token = t; node = x.ty; entry = x.binds.entry } ∷ [])
      ((without_unknown (own k), x.ty.0) ∷ (own k, x.ty.0) ∷ [])
  pun_named None x aloud F scope G n None s has given =
      let key = own k in
      let m = x.ty.0 in
      let v = given F scope G key (λ u. tt) s.reached in
      let y = x.binds.fresh (ap is_aloud x.goes.telling ∙ aloud) F scope ((key, m) ∷ G) k 1 in
      let letters : Letters = (without_unknown key, m) ∷ (key, m) ∷ [] in
      let z = carried_behind y (known_tail key (means_on y.stays v.means)) (λ c. (_, _, _, refl)) in
      let w = x.binds.noted.asks F scope (letters ++ G) in
      let here = open_on (stays_trans z.stays w.stays) v.means.open_node in
      let front = carried_trans v.carried z in
      let sure = noted_sure letters front w (x.binds.noted.hides F scope (letters ++ G)) (x.binds.noted.notes (between_aloud x aloud) m) (both_owned k m) in
      let kept = carried_kept letters letters (all_among letters) (carried_trans front w) sure in
      record {
        carried = carried_as (λ c. append-nil (ask_fresh k 1 seen t ++ known (contexts.type_at c k) ∷ [])) kept;
        done = done_as _ kept (kept_done letters (carried_trans front w) sure (both_sure k m));
        names = λ H r. name_bound k t x.ty x.binds.is_entry here;
        scoped = x.binds.noted.scope (between_aloud x aloud);
      }
  pun_named (Some f) x aloud F scope G n (Some o) s has (is, same_state) =
      let key = own k in
      let m = x.ty.0 in
      let y : Carried F scope (λ c. ask_fresh k 1 seen t) (sight a) G (sight x.binds.between) G =
      subst (λ q. Carried F scope (λ c. ask_fresh k 1 seen t) (sight q) G (sight x.binds.between) G) same_state (x.binds.fresh (ap is_aloud x.goes.telling ∙ aloud) F scope G k 1) in
      let has_it : Means F (sight a) G o m = subst (Means F (sight a) G o) (sym is) has in
      let letters : Letters = (without_unknown key, m) ∷ (key, m) ∷ [] in
      let front = carried_behind y (made_tail key (λ u. tt) (means_on y.stays has_it)) (λ c. (_, _, _, refl)) in
      let w = x.binds.noted.asks F scope (letters ++ G) in
      let here = open_on (stays_trans front.stays w.stays) has_it.open_node in
      let sure = noted_sure letters front w (x.binds.noted.hides F scope (letters ++ G)) (x.binds.noted.notes (between_aloud x aloud) m) (both_owned k m) in
      let kept = carried_kept letters letters (all_among letters) (carried_trans front w) sure in
      record {
        carried = carried_as (λ c. append-nil (ask_fresh k 1 seen t ++ known (contexts.type_at c k) ∷ same (contexts.type_at c k) (o c.chosen) ∷ [])) kept;
        done = done_as _ kept (kept_done letters (carried_trans front w) sure (both_sure k m));
        names = λ H r. name_bound k t x.ty x.binds.is_entry here;
        scoped = x.binds.noted.scope (between_aloud x aloud);
      }
  pun_named None x aloud F scope G n (Some o) s has given = absurd has
  pun_named (Some f) x aloud F scope G n None s has given = absurd has

-- a field without a pattern of its own
pub pun_ends : (a d : Parts) (env : List Entry) (k : ℕ) (qs : List Tok) (last : Option Tok) (names names' : List Bind) (seen seen' : List Name) (wanted : Option ℕ) → Puns last a d env k wanted names names' seen seen' →
    FieldAdds a d env (record { node = k; label = record { qualifiers = qs; last = last }; pattern = None }) names names' seen seen' wanted
pun_ends a d env k qs None names names' seen seen' wanted (noted, same_names, same_seen) = record {
  added = [];
  adds = record { binds = same_names ∙ sym (append-nil names); sees = same_seen ∙ sym (append-nil seen) };
  typed = record { opens = []; typed = λ aloud F scope G n o its s has. record { carried = noted.asks F scope G; done = done_none; names = λ H r. none_bound; scoped = noted.scope aloud } };
}
pun_ends a d env k qs (Some t) names names' seen seen' wanted x = record {
  added = record { token = t; node = x.ty; entry = x.binds.entry } ∷ [];
  adds = x.binds.adds;
  typed = record {
    opens = (without_unknown (own k), x.ty.0) ∷ (own k, x.ty.0) ∷ [];
    typed = λ aloud F scope G n o its s has. pun_named a d env k qs t names names' seen seen' wanted x aloud F scope G n o s has x.given;
  };
}
