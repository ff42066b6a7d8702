-- A type expression once it is read: the choice has the type of its node.
use Rattle.std.proofs.Common.{◌≡◌, ◌∙◌, ◌++◌, ℕ, zero, suc, true, List, [], ◌∷◌, Some, refl, sym, ap, subst, append_assoc, append-nil}
use Rattle.std.specs.Prelude.{None, slice_get}
use Rattle.type_model.specs.Types.{Typ}
use Rattle.typing_model.specs.Demands.{same}
use Rattle.typing_model.specs.Contexts.{Choice, Context, in_item, type_at, tell, unresolved, unresolved_in}
use Rattle.env_table.specs.declared.entries.Entry.{Entry}
use Rattle.env_table.specs.declared.seen.Seen.{Seen}
use Rattle.typing_state.specs.declared.parts.Parts.{Parts}
use Rattle.typing_state.specs.Goes.{Goes, OnlyStore, OnlyIndex}
use Rattle.typing_state.specs.Notes.{Noted}
use Rattle.typing_state.specs.Types.{MakesVar, any_scope}
use Rattle.typing_conditions.specs.Sights.{Sight, Key, own, number_in, Letters}
use Rattle.typing_conditions.specs.Frames.{Frame, Reaches, IsOpen}
use Rattle.typing_conditions.specs.Carrying.{Asks, Scope, SeesScope, Carried, CarriedTo}
use Rattle.typing_conditions.specs.Hiding.{is_doubtful, NoneDoubtful, ArePlaced, AreDone, AreOfRow, Owns, AreSure, IsAmong}
use Rattle.typing_conditions.proofs.Hiding.{no_row, owns_also, owns_row, owns_before, done_copies}
use Rattle.typing_conditions.proofs.Carried.{carried_trans, carried_as, done_then, owns_last, done_as, owns_as}
use Rattle.typing_conditions.proofs.Keeping.{carried_kept, kept_copies, noted_sure}
use Rattle.typing_conditions.proofs.Framing.{open_on}
use Rattle.typing_conditions.proofs.Nodes.{same_made}
use Rattle.typing_conditions.proofs.Recording.{told_at, told_hides}
use Rattle.typing_conditions.proofs.Surrounding.{surrounds_on, surrounds_sees}
use Rattle.typing_steps.specs.States.{is_aloud, sight}
use Rattle.typing_steps.proofs.Making.{var_made}
use Rattle.typing_steps.proofs.Recording.{noted_scope}
use Rattle.typing_steps.proofs.Still.{none_idle, carried_idle, idle_hides, untyped_noted, untyped_row}
use Rattle.typing_steps.proofs.Testing.{carried_here}
use Rattle.typing_rows.specs.TypeContracts.{RowReadIf, RowRead, ReadsRow, ReadsTo, ReadsAll, EndsRead}

-- a row whose further letters belong to it alone
pub row_read : {F : Frame} {scope : Scope} {asks : Asks} {a b : Sight} {G : Letters} {sure : Type 0} (n : ℕ) {m : ℕ} (letters : Letters) → Carried F scope asks a G b ((own n, m) ∷ letters ++ G) → IsOpen F b m → (sure → AreOfRow n letters) → RowReadIf sure F scope asks a G b n m
row_read n letters p opened of_row = record { letters = letters; carried = p; means = record { open_node = opened; is = λ V ch loose g. g.given.0.is }; owns = λ h. owns_also (own n) refl refl (owns_row (of_row h)) }

-- a row without further letters
pub alone_row : {F : Frame} {scope : Scope} {asks : Asks} {a b : Sight} {G : Letters} {sure : Type 0} (n : ℕ) {m : ℕ} → Carried F scope asks a G b ((own n, m) ∷ G) → IsOpen F b m → RowReadIf sure F scope asks a G b n m
alone_row n p opened = row_read n [] p opened (λ h. no_row n)

-- a row that has a type, and whose node then has it
pub same_carried : {F : Frame} {scope : Scope} {asks : Asks} {a b : Sight} {G : Letters} {type : Choice → Typ} {m : ℕ} (n : ℕ) (letters : Letters) → CarriedTo F scope asks a G b (letters ++ G) type m →
    CarriedTo F scope (λ c. asks c ++ same (type_at c n) (type c.chosen) ∷ []) a G b ((own n, m) ∷ letters ++ G) (λ ch. ch.type_at n) m
same_carried {F} {scope} n letters p =
    let q = same_made {F = F} {scope = scope} (own n) (λ t. tt) p.means in
    record { carried = carried_trans p.carried q; means = record { open_node = open_on q.stays p.means.open_node; is = λ V ch loose g. g.given.0.is } }

pub same_over : {F : Frame} {scope : Scope} {asks : Asks} {a b : Sight} {G : Letters} {type : Choice → Typ} {m : ℕ} {sure : Type 0} (n : ℕ) (letters : Letters) → CarriedTo F scope asks a G b (letters ++ G) type m → (sure → AreOfRow n letters) →
    RowReadIf sure F scope (λ c. asks c ++ same (type_at c n) (type c.chosen) ∷ []) a G b n m
same_over n letters p of_row = let x = same_carried n letters p in row_read n letters x.carried x.means.open_node of_row

-- the same without further letters
pub same_read : {F : Frame} {scope : Scope} {asks : Asks} {a b : Sight} {G : Letters} {type : Choice → Typ} {m : ℕ} {sure : Type 0} (n : ℕ) → CarriedTo F scope asks a G b G type m → RowReadIf sure F scope (λ c. asks c ++ same (type_at c n) (type c.chosen) ∷ []) a G b n m
same_read n p = same_over n [] p (λ h. no_row n)

-- a type expression that names no type is any type
pub any_read : (a b : Parts) {F : Frame} {scope : Scope} {G : Letters} {m : ℕ} (n : ℕ) → Reaches F (sight a) → MakesVar a b m any_scope → OnlyStore a b → RowRead F scope (λ c. []) (sight a) G (sight b) n m
any_read a b {scope = scope} n reached made rest = let x = var_made a b {scope = scope} (own n) (λ t. tt) reached made rest in alone_row n x.carried x.means.open_node

-- so it asks nothing in an item
pub unresolved_made : (a b : Parts) {F : Frame} {scope : Scope} {G : Letters} {m : ℕ} (n : ℕ) → Reaches F (sight a) → scope.variables ≡ in_item F.owner → MakesVar a b m any_scope → OnlyStore a b → CarriedTo F scope (λ c. unresolved c n) (sight a) G (sight b) ((own n, m) ∷ G) (λ ch. ch.type_at n) m
unresolved_made a b {F} {scope} {G} {m} n reached item made rest =
    let x = var_made a b {scope = scope} (own n) (λ t. tt) reached made rest in
    record { carried = carried_here (λ V c loose under g named. sym (ap (unresolved_in c n) (under.variables ∙ item))) x.carried; means = x.means }

pub unresolved_read : (a b : Parts) {F : Frame} {scope : Scope} {G : Letters} {m : ℕ} (n : ℕ) → Reaches F (sight a) → scope.variables ≡ in_item F.owner → MakesVar a b m any_scope → OnlyStore a b → RowRead F scope (λ c. unresolved c n) (sight a) G (sight b) n m
unresolved_read a b n reached item made rest = let x = unresolved_made a b n reached item made rest in alone_row n x.carried x.means.open_node

-- such a type expression, by its call
pub unresolved_reads : (a b : Parts) (env : List Entry) (n m : ℕ) → MakesVar a b m any_scope → OnlyStore a b → ReadsRow a b env (λ c. unresolved c n) n m
unresolved_reads a b env n m made rest = λ aloud F scope G s. unresolved_read a b n s.reached s.item made rest

-- the letter for the type of a node is among those of its row
first_among : (x : Key × ℕ) (xs : Letters) → IsAmong (x ∷ []) (x ∷ xs)
first_among x xs = record { given = λ V ch h. (h.0, tt); inside = λ nodes h. (h.0, tt) }

only_own : (n m : ℕ) → NoneDoubtful ((own n, m) ∷ [])
only_own n m zero x e = let s : (own n, m) ≡ x = cc in ap (λ (y : Key × ℕ). is_doubtful y.0) (sym s)
only_own n m (suc k) x e = absurd (cc)

first_of : (n m : ℕ) (xs : Letters) (k : ℕ) (z : Key × ℕ) → slice_get ((own n, m) ∷ []) k ≡ Some z → slice_get ((own n, m) ∷ xs) 0 ≡ Some z
first_of n m xs zero z e = e
first_of n m xs (suc k) z e = absurd (cc)

-- what is recorded for the node of a type expression has no type
pub noted_reads : (a b d : Parts) (env : List Entry) (asks : Asks) (n m number : ℕ) (seen : Seen) → seen.ty ≡ None → seen.env ≡ env → number_in b.item number ≡ n → Goes a b → ReadsRow a b env asks n m → Noted b.telling b d number seen → OnlyIndex b d → ReadsTo a d env (λ c. tell n c ++ asks c) n m
noted_reads a b d env asks n m number seen none among place goes read noted rest = λ aloud F scope G s.
    let x = read aloud F scope G s in
    let letters : Letters = (own n, m) ∷ x.letters in
    let only = untyped_noted b d number seen none noted rest in
    let same = ap (λ f. (sight (record b { faults = f })).reports) rest.faults in
    let y : Carried F scope (λ c. []) (sight b) (letters ++ G) (sight d) (letters ++ G) = carried_idle none_idle only same in
    let loud : is_aloud b.telling ≡ true = ap is_aloud goes.telling ∙ aloud in
    let row = untyped_row b d n m number seen none loud noted rest place in
    let whole = carried_trans x.carried y in
    let sure : F.known ≡ true → ArePlaced (sight d) → AreSure (sight a) (sight d) whole.hidden letters = λ known placed. noted_sure letters x.carried y (idle_hides F scope (letters ++ G) none_idle only same) row (x.owns known) known placed in
    let kept = carried_kept letters ((own n, m) ∷ []) (first_among (own n, m) x.letters) whole sure in
    let there = carried_as (λ c. append-nil (asks c)) kept in
    let recorded = noted_scope b d number seen loud noted in
    let sees = subst (SeesScope F scope (sight a) G) (sym among) (surrounds_sees s) in
    record {
      carried = told_at n (sym place) there recorded sees;
      means = record { open_node = open_on y.stays x.means.open_node; is = λ V ch loose g. g.given.0.is };
      done = subst (λ xs. AreDone (sight d) xs ((own n, m) ∷ [])) (sym (told_hides n (sym place) there recorded sees)) (done_as (λ c. append-nil (asks c)) kept (done_copies (only_own n m) (λ k z e. let first : slice_get letters 0 ≡ Some z = first_of n m x.letters k z e in kept_copies letters ((own n, m) ∷ []) (first_among (own n, m) x.letters) whole sure 0 z first)));
    }

-- a row with further letters, whatever is open after it
record Closing (F : Frame) (scope : Scope) (asks : Asks) (a : Sight) (G : Letters) (b : Sight) (n m : ℕ) (letters H : Letters) : Type 0 where
  carried : Carried F scope asks a G b ((own n, m) ∷ H)
  opened : IsOpen F b m
  owns : F.known ≡ true → Owns n m b carried.hidden ((own n, m) ∷ letters)

closing_row : {F : Frame} {scope : Scope} {asks : Asks} {a b : Sight} {G : Letters} {n m : ℕ} (letters : Letters) → Closing F scope asks a G b n m letters (letters ++ G) → RowRead F scope asks a G b n m
closing_row letters x = record { letters = letters; carried = x.carried; means = record { open_node = x.opened; is = λ V ch loose g. g.given.0.is }; owns = x.owns }

-- the parts of a row, and then its end
pub row_reads : (a b d : Parts) (env : List Entry) (front ends : Asks) (ns ms : List ℕ) (n m : ℕ) → ReadsAll a b env front ns ms → Goes a b → EndsRead b d env ends ns ms n m → ReadsRow a d env (λ c. front c ++ ends c) n m
row_reads a b d env front ends ns ms n m parts goes end = λ aloud F scope G s.
    let x = parts aloud F scope G s in
    let y = end (ap is_aloud goes.telling ∙ aloud) F scope (x.letters ++ G) (surrounds_on x.carried.stays s) x.means in
    let c = carried_trans x.carried y.carried in
    closing_row (y.letters ++ x.letters) (subst (Closing F scope (λ c. front c ++ ends c) (sight a) G (sight d) n m (y.letters ++ x.letters)) (sym (append_assoc y.letters x.letters G))
    (record { carried = c; opened = y.means.open_node; owns = λ known. owns_before (owns_last x.carried y.carried (y.owns known)) (done_then x.carried y.carried x.done) }))

-- what is asked may be written in another way
pub read_as : {F : Frame} {scope : Scope} {asks others : Asks} {a b : Sight} {G : Letters} {n m : ℕ} {sure : Type 0} → ((c : Context) → asks c ≡ others c) → RowReadIf sure F scope asks a G b n m → RowReadIf sure F scope others a G b n m
read_as e x = record { letters = x.letters; carried = carried_as e x.carried; means = x.means; owns = λ h. owns_as e x.carried (x.owns h) }

pub reads_as : (a b : Parts) (env : List Entry) (asks others : Asks) (n m : ℕ) → ((c : Context) → asks c ≡ others c) → ReadsRow a b env asks n m → ReadsRow a b env others n m
reads_as a b env asks others n m e read = λ aloud F scope G s. read_as e (read aloud F scope G s)

-- the same of one whose node is noted
pub reads_to_as : (a b : Parts) (env : List Entry) (asks others : Asks) (n m : ℕ) → ((c : Context) → asks c ≡ others c) → ReadsTo a b env asks n m → ReadsTo a b env others n m
reads_to_as a b env asks others n m e read = λ aloud F scope G s. let x = read aloud F scope G s in record { carried = carried_as e x.carried; means = x.means; done = done_as e x.carried x.done }
