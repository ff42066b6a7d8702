-- Letters that patterns open, and those that are closed at the end of a row.
use Rattle.std.proofs.Common.{◌≡◌, ◌∙◌, ◌++◌, ℕ, zero, suc, true, Some, Bool, List, [], ◌∷◌, inl, inr, sym, ap, subst, append_assoc, refl}
use Rattle.std.specs.Prelude.{slice_get}
use mathlib.Core.Path.{subst_refl, path_j}
use Rattle.type_model.specs.Types.{Typ}
use Rattle.typing_model.specs.Contexts.{Choice}
use Rattle.env_table.specs.declared.entries.Entry.{Entry}
use Rattle.typing_conditions.specs.Sights.{Sight, Key, own, number_in, Letters}
use Rattle.typing_conditions.specs.Frames.{Frame}
use Rattle.typing_conditions.specs.Meanings.{Means}
use Rattle.typing_conditions.specs.Steps.{Records}
use Rattle.typing_conditions.specs.Carrying.{Asks, Scope, SeesScope, Carried, CarriedTo}
use Rattle.typing_conditions.specs.Hiding.{is_doubtful, marked, is_sure, HasTyped, ArePlaced, NoneDoubtful, AreDone, Owns, AreSure, IsAmong}
use Rattle.typing_conditions.proofs.Judged.{given_left, given_both, nodes_both}
use Rattle.typing_conditions.proofs.Carried.{carried_trans, done_then, owns_last}
use Rattle.typing_conditions.proofs.Hiding.{given_marked, nodes_marked, settles_closed, copy_first, copy_second, marked_copy, keeps_same, done_copies, done_on, owns_before, sure_marked, copy_itself}
use Rattle.typing_conditions.proofs.Keeping.{all_among, among_after}
use Rattle.typing_conditions.proofs.Recording.{here_now, records_keep, told_at, told_hides}
use Rattle.typing_steps.specs.Typing.{RowCarried}
use Rattle.typing_rows.proofs.Own.{own_recorded}
use Rattle.typing_conditions.proofs.Copies.{copied_after, copied_parts}
use Rattle.typing_conditions.proofs.Stops.{lasts_same, stops_end}

-- letters that are open may be grouped in another way: what is hidden is the same
pub grouped_hides : {F : Frame} {scope : Scope} {asks : Asks} {a b : Sight} {G H K : Letters} (same : H ≡ K) (p : Carried F scope asks a G b H) → (subst (λ J. Carried F scope asks a G b J) same p).hidden ≡ p.hidden
grouped_hides {F} {scope} {asks} {a} {b} {G} same p =
    path_j (λ K e. (subst (λ J. Carried F scope asks a G b J) e p).hidden ≡ p.hidden) (ap (λ (q : Carried F scope asks a G b _). q.hidden) (subst_refl (λ J. Carried F scope asks a G b J) p)) same

pub grouped_to_hides : {F : Frame} {scope : Scope} {asks : Asks} {a b : Sight} {G H K : Letters} {type : Choice → Typ} {m : ℕ} (same : H ≡ K) (p : CarriedTo F scope asks a G b H type m) → (subst (λ J. CarriedTo F scope asks a G b J type m) same p).carried.hidden ≡ p.carried.hidden
grouped_to_hides {F} {scope} {asks} {a} {b} {G} {type = type} {m = m} same p =
    path_j (λ K e. (subst (λ J. CarriedTo F scope asks a G b J type m) e p).carried.hidden ≡ p.carried.hidden) (ap (λ (q : CarriedTo F scope asks a G b _ type m). q.carried.hidden) (subst_refl (λ J. CarriedTo F scope asks a G b J type m) p)) same

-- so the rows of letters are done as they were
pub done_grouped : {F : Frame} {scope : Scope} {asks : Asks} {a b : Sight} {G H K ys : Letters} (same : H ≡ K) (p : Carried F scope asks a G b H) → AreDone b p.hidden ys → AreDone b (subst (λ J. Carried F scope asks a G b J) same p).hidden ys
done_grouped {b = b} {ys = ys} same p h = subst (λ xs. AreDone b xs ys) (sym (grouped_hides same p)) h

-- nor does that a node is told to be treated hide anything more
pub done_told : {F : Frame} {scope : Scope} {asks : Asks} {a b : Sight} {G H ys : Letters} (n : ℕ) {i p : ℕ} {env : List Entry} (number : n ≡ number_in i p) (it : Carried F scope asks a G b H) (there : b.scopes i p ≡ Some env) (sees : SeesScope F scope a G env) → AreDone b it.hidden ys →
    AreDone b (told_at n number it there sees).hidden ys
done_told {b = b} {ys = ys} n number it there sees h = subst (λ xs. AreDone b xs ys) (sym (told_hides n number it there sees)) h

-- the letter for the type of a node that is recorded
pub recorded_done : {b d : Sight} {n p m : ℕ} {env : List Entry} {xs : Letters} → number_in b.item p ≡ n → Records b d p m env → AreDone d xs ((own n, m) ∷ [])
recorded_done {b} {d} {n} {p} {m} {xs} place r = record { sure = only; each = λ k x e. inl (typed k x e) }
  where
    only : NoneDoubtful ((own n, m) ∷ [])
    only zero x e = let s : (own n, m) ≡ x = cc in ap (λ (y : Key × ℕ). is_doubtful y.0) (sym s)
    only (suc k) x e = absurd (cc)

    typed : (k : ℕ) (x : Key × ℕ) → slice_get ((own n, m) ∷ []) k ≡ Some x → HasTyped d x
    typed zero x e = let s : (own n, m) ≡ x = cc in subst (HasTyped d) s (record { item = b.item; place = p; key = ap own (sym place); at = here_now r })
    typed (suc k) x e = absurd (cc)

-- what is recorded hides nothing more
pub recorded_hides : {F : Frame} {scope : Scope} {asks : Asks} {a b d : Sight} {G H : Letters} (n : ℕ) {p m : ℕ} {env : List Entry} (place : number_in b.item p ≡ n) (it : Carried F scope asks a G b H) (means : Means F b H (λ ch. ch.type_at n) m) (r : Records b d p m env) (sees : SeesScope F scope a G env) → (own_recorded n place it means r sees).hidden ≡ it.hidden
unfolding own_recorded
recorded_hides n place it means r sees = refl

-- so the rows of letters are done still
pub done_recorded : {F : Frame} {scope : Scope} {asks : Asks} {a b d : Sight} {G H ys : Letters} (n : ℕ) {p m : ℕ} {env : List Entry} (place : number_in b.item p ≡ n) (it : Carried F scope asks a G b H) (means : Means F b H (λ ch. ch.type_at n) m) (r : Records b d p m env) (sees : SeesScope F scope a G env) → AreDone b it.hidden ys → AreDone d (own_recorded n place it means r sees).hidden ys
done_recorded {d = d} {ys = ys} n place it means r sees h = subst (λ xs. AreDone d xs ys) (sym (recorded_hides n place it means r sees)) (done_on (records_keep r) (λ x c. c) h)

-- Some of the letters that are open are hidden too, and stay open.
pub carried_copied : {F : Frame} {scope : Scope} {asks : Asks} {a b : Sight} {G H : Letters} (some : Letters) → IsAmong some H → (p : Carried F scope asks a G b H) → (F.known ≡ true → ArePlaced b → AreSure a b p.hidden some) → Carried F scope asks a G b H
carried_copied {F} {scope} {asks} {a} {b} {G} {H} some among p are_sure = record {
  stays = p.stays;
  hidden = p.hidden ++ marked test some;
  settled = settles_closed p.hidden some p.settled;
  clear = λ known placed. sure_marked p.hidden (p.clear known placed) (are_sure known placed);
  judged = p.judged;
  told = p.told;
  reports = p.reports;
  counted = p.counted;
  sound = λ r V c l. p.sound r V c (record { under = l.under; reads = l.reads; agrees = l.agrees; hidden_too = given_left V c.chosen p.hidden (marked test some) l.hidden_too; named = l.named; unbound = l.unbound; kept = l.kept; scopes = l.scopes; in_the_end = l.in_the_end; types = l.types; types_too = l.types_too });
  follows = λ r V c l. p.follows r V c (record { under = l.under; reads = l.reads; agrees = l.agrees; hidden_too = given_left V c.chosen p.hidden (marked test some) l.hidden_too; named = l.named; unbound = l.unbound; kept = l.kept; scopes = l.scopes; in_the_end = l.in_the_end; types = l.types; types_too = l.types_too });
  complete = λ named V c e h. elim (p.complete named V c e h) [
    | inl goes ↦ inl (record {
      same = goes.same;
      types = goes.types;
      on = goes.on;
      hidden_too = (
        nodes_both p.hidden (marked test some) b.nodes goes.hidden_too.0 (nodes_marked test some b.nodes (among.inside b.nodes (p.stays.inside e.inside).given)),
        given_both goes.types c.chosen p.hidden (marked test some) goes.hidden_too.1 (given_marked test some goes.types c.chosen (among.given goes.types c.chosen goes.on.agrees.given)),
      );
    })
    | inr short ↦ inr short
  ];
  first = p.first;
  stops = stops_end p.told (lasts_same b (p.hidden ++ H) ((p.hidden ++ marked test some) ++ H) (copied_parts p.hidden H ((p.hidden ++ marked test some) ++ H)
      (λ k x e. copy_first (p.hidden ++ marked test some) H (copy_first p.hidden (marked test some) (copy_itself p.hidden k x e))) (copied_after (p.hidden ++ marked test some) H))) p.stops;
}
  where
    test : Key × ℕ → Bool
    test = is_sure a b (p.hidden ++ some)

-- their rows are done then, and those of other letters are so still
pub copied_done : {F : Frame} {scope : Scope} {asks : Asks} {a b : Sight} {G H : Letters} (some : Letters) (among : IsAmong some H) (p : Carried F scope asks a G b H) (are_sure : F.known ≡ true → ArePlaced b → AreSure a b p.hidden some) → NoneDoubtful some →
    AreDone b (carried_copied some among p are_sure).hidden some
unfolding carried_copied
copied_done {a = a} {b = b} some among p are_sure sure = done_copies sure (λ k x e. copy_second p.hidden (marked (is_sure a b (p.hidden ++ some)) some) (marked_copy (is_sure a b (p.hidden ++ some)) some k x e))

pub copied_more : {F : Frame} {scope : Scope} {asks : Asks} {a b : Sight} {G H ys : Letters} (some : Letters) (among : IsAmong some H) (p : Carried F scope asks a G b H) (are_sure : F.known ≡ true → ArePlaced b → AreSure a b p.hidden some) → AreDone b p.hidden ys →
    AreDone b (carried_copied some among p are_sure).hidden ys
unfolding carried_copied
copied_more {a = a} {b = b} some among p are_sure h = done_on keeps_same (λ x c. copy_first p.hidden (marked (is_sure a b (p.hidden ++ some)) some) c) h

-- a row among whose letters are those that stay open, whose rows are done
pub record RowOpened (F : Frame) (scope : Scope) (asks : Asks) (a : Sight) (G : Letters) (b : Sight) (n m : ℕ) (opens : Letters) : Type 0 where
  pub row : RowCarried F scope asks a G b n m
  pub among : IsAmong opens row.own
  pub done : AreDone b row.typed.carried.hidden opens

-- a row after other conditions, which open letters
pub row_behind : {F : Frame} {scope : Scope} {before asks : Asks} {a b d : Sight} {G : Letters} {n m : ℕ} (opens : Letters) (first : Carried F scope before a G b (opens ++ G)) → AreDone b first.hidden opens → RowCarried F scope asks b (opens ++ G) d n m → RowOpened F scope (λ c. before c ++ asks c) a G d n m opens
row_behind {F} {scope} {before} {asks} {a} {b} {d} {G} {n} {m} opens first ready row =
    let same = sym (append_assoc row.own opens G) in
    let both = carried_trans first row.typed.carried in
    let behind : AreDone d both.hidden opens = done_then first row.typed.carried ready in
    let here : CarriedTo F scope (λ c. before c ++ row.first c) a G d (row.own ++ (opens ++ G)) row.type m = record { carried = both; means = row.typed.means } in
    record {
      row = record {
        own = row.own ++ opens;
        type = row.type;
        first = λ c. before c ++ row.first c;
        ends = row.ends;
        all = λ c. append_assoc (before c) (row.first c) (row.ends c) ∙ ap (λ xs. before c ++ xs) (row.all c);
        typed = subst (λ H. CarriedTo F scope (λ c. before c ++ row.first c) a G d H row.type m) same here;
        owns = λ known. subst (λ xs. Owns n m d xs (row.own ++ opens)) (sym (grouped_to_hides same here)) (owns_before (owns_last first row.typed.carried (row.owns known)) behind);
        end = row.end;
      };
      among = among_after row.own (all_among opens);
      done = subst (λ xs. AreDone d xs opens) (sym (grouped_to_hides same here)) behind;
    }
