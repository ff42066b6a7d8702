-- Patterns that are matched in order, each behind the names of those before.
use Rattle.std.proofs.Common.{◌≡◌, ◌∙◌, ◌++◌, ℕ, List, [], ◌∷◌, refl, sym, ap, subst, append_assoc, append-nil}
use Rattle.signature_model.specs.Declarations.{Name}
use Rattle.typing_model.specs.Contexts.{Choice}
use Rattle.typing_model.specs.Parts.{Pattern}
use Rattle.typing_model.specs.Patterns.{matched_all, all_names, all_mentions}
use Rattle.env_table.specs.declared.entries.Entry.{Entry}
use Rattle.typing_state.specs.declared.parts.Parts.{Parts}
use Rattle.typing_state.specs.Goes.{Goes}
use Rattle.typing_conditions.specs.Meanings.{AllMean, none_mean}
use Rattle.typing_conditions.specs.Carrying.{Carried}
use Rattle.typing_conditions.proofs.Carried.{carried_refl, carried_trans, carried_as, done_then, done_last, done_as}
use Rattle.typing_conditions.proofs.Hiding.{done_none, done_both}
use Rattle.typing_conditions.proofs.Meaning.{all_mean_on, all_mean_more}
use Rattle.typing_conditions.proofs.Surrounding.{surrounds_on}
use Rattle.typing_steps.specs.States.{is_aloud, sight}
use Rattle.pattern_rows.specs.Bounds.{Bind, AllBound, none_bound, Adds}
use Rattle.pattern_rows.specs.Contracts.{types_at, MatchesTo, Matches, MatchesAll, MatchesFirst, MatchesInOrder, InOrderFirst}
use Rattle.pattern_rows.proofs.Naming.{all_bound_on, all_bound_both, adds_none, adds_both}
use Rattle.pattern_rows.proofs.Opened.{done_grouped}

-- no pattern yet
pub patterns_none : (a : Parts) (env : List Entry) (ps : List Pattern) (seen : List Name) (ms : List ℕ) → ms ≡ [] → MatchesFirst a a env ps ps seen seen [] ms
patterns_none a env ps seen ms none = record {
  opens = [];
  typed = λ aloud F scope G s. record {
    done = λ c. [];
    types = [];
    bounds = [];
    carried = carried_refl;
    rows_done = done_none;
    means = subst (AllMean F (sight a) G []) (sym none) none_mean;
    names = none_bound;
    asks = λ c. refl;
    gives = refl;
    binds = refl;
  };
}

-- one pattern more
pub patterns_more : (a b d : Parts) (env : List Entry) (all left rest : List Pattern) (p : Pattern) (seen now then : List Name) (added more : List Bind) (ms longer : List ℕ) (m : ℕ) → left ≡ p ∷ rest → then ≡ now ++ p.mentions → longer ≡ ms ++ m ∷ [] → Goes a b →
    MatchesFirst a b env all left seen now added ms → MatchesTo b d env p now more m → MatchesFirst a d env all rest seen then (added ++ more) longer
patterns_more a b d env all left rest p seen now then added more ms longer m split later grown goes first one = record {
  opens = one.opens ++ first.opens;
  typed = λ aloud F scope G s.
      let x = first.typed aloud F scope G s in
      let y = one.typed (ap is_aloud goes.telling ∙ aloud) F scope (first.opens ++ G) (surrounds_on x.carried.stays s) in
      let type = λ (ch : Choice). ch.type_at p.node in
      let same = sym (append_assoc one.opens first.opens G) in
      record {
        done = λ c. x.done c ++ p.matched c now;
        types = x.types ++ type ∷ [];
        bounds = x.bounds ++ p.names;
        carried = subst (λ H. Carried F scope (λ c. x.done c ++ p.matched c now) (sight a) G (sight d) H) same (carried_trans x.carried y.typed.carried);
        rows_done = done_grouped same (carried_trans x.carried y.typed.carried) (done_both (done_last x.carried y.typed.carried y.done) (done_then x.carried y.typed.carried x.rows_done));
        means = subst (AllMean F (sight d) ((one.opens ++ first.opens) ++ G) (x.types ++ type ∷ [])) (sym grown)
            (subst (λ H. AllMean F (sight d) H (x.types ++ type ∷ []) (ms ++ m ∷ [])) same (all_mean_more (all_mean_on y.typed.carried.stays x.means) y.typed.means));
        names = subst (λ H. AllBound F (sight d) H (x.bounds ++ p.names) (added ++ more)) same (all_bound_both (all_bound_on y.typed.carried.stays x.names) y.names);
        asks = λ c.
            x.asks c ∙ ap (λ ps. x.done c ++ matched_all c now ps) split ∙ sym (append_assoc (x.done c) (p.matched c now) (matched_all c (now ++ p.mentions) rest)) ∙
            ap (λ ns. (x.done c ++ p.matched c now) ++ matched_all c ns rest) (sym later);
        gives = x.gives ∙ ap (λ ps. x.types ++ types_at ps) split ∙ sym (append_assoc x.types (type ∷ []) (types_at rest));
        binds = x.binds ∙ ap (λ ps. x.bounds ++ all_names ps) split ∙ sym (append_assoc x.bounds p.names (all_names rest));
      };
}

-- all patterns
pub patterns_all : (a b : Parts) (env : List Entry) (all left : List Pattern) (seen now : List Name) (added : List Bind) (ms : List ℕ) → left ≡ [] → MatchesFirst a b env all left seen now added ms → MatchesAll a b env all seen added ms
patterns_all a b env all left seen now added ms none first = record {
  opens = first.opens;
  typed = λ aloud F scope G s.
      let x = first.typed aloud F scope G s in
      record {
        carried = carried_as (λ c. sym (append-nil (x.done c)) ∙ ap (λ ps. x.done c ++ matched_all c now ps) (sym none) ∙ sym (x.asks c)) x.carried;
        done = done_as _ x.carried x.rows_done;
        means = subst (λ ts. AllMean F (sight b) (first.opens ++ G) ts ms) (sym (append-nil x.types) ∙ ap (λ ps. x.types ++ types_at ps) (sym none) ∙ sym x.gives) x.means;
        names = subst (λ bs. AllBound F (sight b) (first.opens ++ G) bs added) (sym (append-nil x.bounds) ∙ ap (λ ps. x.bounds ++ all_names ps) (sym none) ∙ sym x.binds) x.names;
      };
}

-- with the names that are added: no pattern yet
pub in_order_none : (a : Parts) (env : List Entry) (ps : List Pattern) (names : List Bind) (seen : List Name) (ms : List ℕ) → ms ≡ [] → InOrderFirst a a env ps ps names names seen seen ms
in_order_none a env ps names seen ms none = record { added = []; mentions = []; adds = adds_none names seen; mentioned = refl; typed = patterns_none a env ps seen ms none }

-- one pattern more
pub in_order_more : (a b d : Parts) (env : List Entry) (all left rest : List Pattern) (p : Pattern) (names some more : List Bind) (seen now then : List Name) (ms longer : List ℕ) (m : ℕ) → left ≡ p ∷ rest → longer ≡ ms ++ m ∷ [] → Goes a b →
    InOrderFirst a b env all left names some seen now ms → Matches b d env p some more now then m → InOrderFirst a d env all rest names more seen then longer
in_order_more a b d env all left rest p names some more seen now then ms longer m split grown goes first one = record {
  added = first.added ++ one.added;
  mentions = first.mentions ++ p.mentions;
  adds = adds_both first.adds one.adds;
  mentioned = first.mentioned ∙ ap (λ ps. first.mentions ++ all_mentions ps) split ∙ sym (append_assoc first.mentions p.mentions (all_mentions rest));
  typed = patterns_more a b d env all left rest p seen now then first.added one.added ms longer m split one.adds.sees grown goes first.typed one.typed;
}

-- all patterns
pub in_order_all : (a b : Parts) (env : List Entry) (all left : List Pattern) (names more : List Bind) (seen then : List Name) (ms : List ℕ) → left ≡ [] → InOrderFirst a b env all left names more seen then ms → MatchesInOrder a b env all names more seen then ms
in_order_all a b env all left names more seen then ms none first = record {
  added = first.added;
  adds = subst (λ ns. Adds names more first.added seen then ns) (sym (append-nil first.mentions) ∙ ap (λ ps. first.mentions ++ all_mentions ps) (sym none) ∙ sym first.mentioned) first.adds;
  typed = patterns_all a b env all left seen then first.added ms none first.typed;
}
