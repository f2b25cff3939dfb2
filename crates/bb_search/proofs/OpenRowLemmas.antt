-- The steps of a key's settling: a new row, what is told of an action, the row's notes and worth.
use Rattle.std.proofs.Common.{◌≡◌, ◌≢◌, inl, inr, ℕ, List, [], ◌∷◌, ◌++◌}
use Rattle.std.proofs.Common.{length, Option, Some, None, zero, suc, arith, refl, sym, ◌∙◌, ap, subst}
use Rattle.std.proofs.Common.{length-append}
use Rattle.std.specs.Prelude.{slice_get, IsSome}
use Rattle.std.proofs.lemmas.Option.{slice_get_within, same_Some}
use Rattle.std.proofs.lemmas.Bool.Decides.{eqb_tells}
use Rattle.brake_base.specs.declared.stroke.Key.{Key}
use Rattle.brake_base.specs.declared.stroke.Action.{Action}
use Rattle.brake_base.specs.declared.stroke.Worth.{Worth}
use Rattle.brake_base.specs.declared.reason.Reason.{Reason}
use Rattle.job_setup.specs.Setup.{JobData}
use Rattle.handling_cost.specs.Reach.{IsNode}
use Rattle.row_pool.specs.Rows.{Pool, PoolRow, changed_at, new_row, with_row}
use Rattle.row_pool.proofs.PoolLemmas.{length-changed_at}
use Rattle.bb_search.specs.declared.known.KnownActions.{KnownActions}
use Rattle.bb_search.specs.Table.{Extends}
use Rattle.bb_search.specs.Settling.{IsSettled, IsSound, IsSource, IsKnownAfter}
use Rattle.bb_search.specs.OpenRows.{IsPending, IsSettlingAt}
use Rattle.bb_search.proofs.RowLemmas.{push_cases, push_kept, push_last, changed_cases, changed_here, changed_elsewhere}
use Rattle.bb_search.proofs.TableLemmas.{settled_kept, source_kept, grown_extends}

-- a row without a worth isn't one with a worth
no_worth : (row : PoolRow) (worth : Worth) → row.worth ≡ None → row.worth ≡ Some worth → ⊥
no_worth row worth none some = cc

pub has_worth : (row : PoolRow) (worth : Worth) → row.worth ≡ Some worth → IsSome row.worth
has_worth row worth is = rw is refl

-- a change after another is one change
pub changed_twice :
    {X : Type 0} (place : ℕ) (first second : X → X) (xs : List X)
    → changed_at place second (changed_at place first xs)
    ≡ changed_at place (λ x. second (first x)) xs
changed_twice place first second [] = refl
changed_twice zero first second (x ∷ xs) = refl
changed_twice (suc place) first second (x ∷ xs) =
    ap (λ ys. x ∷ ys) (changed_twice place first second xs)

module _ (job : JobData) (rows : List PoolRow) (changed : List PoolRow)
    (extends : Extends rows changed) (sound : IsSound job rows) where
  -- rows that are as they were, and one more that is done or has no worth
  pub sound_kept : (place : ℕ) →
      ((i : ℕ) (row : PoolRow) → slice_get changed i ≡ Some row → i ≢ place → slice_get rows i ≡ Some row) →
      ((row : PoolRow) → slice_get changed place ≡ Some row → IsNode job row.key) →
      ((row : PoolRow) (worth : Worth) → slice_get changed place ≡ Some row → row.worth ≡ Some worth → IsSettled job changed row worth) →
      IsSound job changed
  sound_kept place same node done =
      record {
        settled = λ i row worth at is. elim (eqb_tells i place) [
          | inl here ↦ done row worth (subst (λ (k : ℕ). slice_get changed k ≡ Some row) here.1 at) is
          | inr there ↦ settled_kept job rows changed extends row worth (sound.settled i row worth (same i row at there.1) is)
        ];
        nodes = λ i row at. elim (eqb_tells i place) [
          | inl here ↦ node row (subst (λ (k : ℕ). slice_get changed k ≡ Some row) here.1 at)
          | inr there ↦ sound.nodes i row (same i row at there.1)
        ];
      }

module _ (job : JobData) (before : Pool) (key : Key) (at : KnownActions) where
  -- a new row
  pub settling_starts :
      IsSound job before.rows → IsNode job key
      → IsSettlingAt job before (with_row before key) key at (new_row before.actions key)
  settling_starts sound node =
      let row = new_row before.actions key in
      let rows = before.rows ++ row ∷ [] in
      let extends : Extends before.rows rows = λ i r worth at_i is. push_kept before.rows row i r at_i in
      record {
        sound = record {
          settled = λ i r worth at_i is. elim (push_cases before.rows row i r at_i) [
            | inl there ↦ settled_kept job before.rows rows extends r worth (sound.settled i r worth there is)
            | inr here ↦ absurd (let none : r.worth ≡ None = ap (λ (x : PoolRow). x.worth) here.1 in no_worth r worth none is)
          ];
          nodes = λ i r at_i. elim (push_cases before.rows row i r at_i) [
            | inl there ↦ sound.nodes i r there
            | inr here ↦ rw here.1 node
          ];
        };
        longer = simp length-append (omega arith);
        keeps = λ i r at_i. push_kept before.rows row i r at_i;
        here = push_last before.rows row;
        its = refl;
        unsettled = refl;
        others = λ i r at_i. elim (push_cases before.rows row i r at_i) [
          | inl there ↦ inl there
          | inr here ↦ inr (inl here.0)
        ];
        limit = refl;
        actions = refl;
      }

module _ (job : JobData) (before now : Pool) (key : Key) (at : KnownActions) (row : PoolRow)
    (state : IsSettlingAt job before now key at row) where
  -- more is known, and no row came
  pub settling_told :
      (more : KnownActions) (commons : List (Option Reason))
      → ((next : Key) → IsPending job key at next → IsPending job key more next)
      → IsSettlingAt job before (record now { common = commons }) key more row
  settling_told more commons kept = record {
    sound = state.sound;
    longer = state.longer;
    keeps = state.keeps;
    here = state.here;
    its = state.its;
    unsettled = state.unsettled;
    others = λ i other at_i. elim (state.others i other at_i) [
      | inl old ↦ inl old
      | inr (inl here) ↦ inr (inl here)
      | inr (inr further) ↦ inr (inr (
        further.0,
        (
          further.1.0,
          elim further.1.1 [
            | inl source ↦ inl source
            | inr pending ↦ inr (kept other.key pending)
          ],
        ),
      ))
    ];
    limit = state.limit;
    actions = state.actions;
  }

  -- the worth of the key to which an action leads was found, and is told of the action
  pub settling_found :
      (after : Pool) (next : Key) (worth : Worth) (more : KnownActions)
      → IsKnownAfter job now after next worth
      → ((other : Key) → IsPending job key at other → IsPending job key more other)
      → IsPending job key more next → IsSettlingAt job before after key more row
  settling_found after next worth more found kept leads =
      let extends = grown_extends now.rows after.rows found.grows in
      record {
        sound = found.sound;
        longer = let longer = found.grows.longer in omega (arith, state.longer);
        keeps = λ i other at_i. found.grows.keeps i other (state.keeps i other at_i);
        here = found.grows.keeps (length before.rows) row state.here;
        its = state.its;
        unsettled = state.unsettled;
        others = λ i other at_i. elim (found.grows.news i other at_i) [
          | inl there ↦ elim (state.others i other there) [
            | inl old ↦ inl old
            | inr (inl here) ↦ inr (inl here)
            | inr (inr further) ↦ inr (inr (
              further.0,
              (
                further.1.0,
                elim further.1.1 [
                  | inl source ↦ inl (source_kept job now.rows after.rows extends other.key source)
                  | inr pending ↦ inr (kept other.key pending)
                ],
              ),
            ))
          ]
          | inr further ↦ inr (inr (
            let longer = state.longer in omega arith,
            (
              further.1,
              elim (found.sources i other at_i further.0) [
                | inl its ↦ inr (subst (λ (k : Key). IsPending job key more k) (sym its) leads)
                | inr source ↦ inl source
              ],
            ),
          ))
        ];
        limit = found.limit ∙ state.limit;
        actions = found.actions ∙ state.actions;
      }

  here_at : (other : PoolRow) → slice_get now.rows (length before.rows) ≡ Some other → other ≡ row
  here_at other at_i = same_Some other row (sym at_i ∙ state.here)

  -- the open row is no settled one
  settled_elsewhere : (i : ℕ) (other : PoolRow) (worth : Worth) → slice_get now.rows i ≡ Some other → other.worth ≡ Some worth → i ≢ length before.rows
  settled_elsewhere i other worth at_i is same =
      let one : other ≡ row = here_at other (subst (λ (k : ℕ). slice_get now.rows k ≡ Some other) same at_i) in
      no_worth other worth (ap (λ (r : PoolRow). r.worth) one ∙ state.unsettled) is

  -- rows from before stand before the open row
  before_elsewhere : (i : ℕ) (other : PoolRow) → slice_get before.rows i ≡ Some other → i ≢ length before.rows
  before_elsewhere i other at_i same = let within = slice_get_within before.rows i other at_i in omega arith

  -- a change of the open row leaves the settled ones
  pub extends_by : (change : PoolRow → PoolRow) → Extends now.rows (changed_at (length before.rows) change now.rows)
  extends_by change i other worth at_i is = changed_elsewhere (length before.rows) change now.rows i other (settled_elsewhere i other worth at_i is) at_i

  -- the open row gets its notes and its worth, with which it is done
  pub settling_done :
      (change : PoolRow → PoolRow) (after : Pool) (worth : Worth)
      → ((r : PoolRow) → (change r).key ≡ r.key) → (change row).worth ≡ Some worth
      → after.rows ≡ changed_at (length before.rows) change now.rows
      → after.limit ≡ now.limit → after.actions ≡ now.actions
      → IsSettled job (changed_at (length before.rows) change now.rows) (change row) worth
      → ((next : Key) → IsPending job key at next
      → (action : Action) × IsSource job (change row) action worth next)
      → IsKnownAfter job before after key worth
  settling_done change after worth same_key is_worth rows_are limit_is actions_are done leads =
      let place = length before.rows in
      let changed = changed_at place change now.rows in
      let extends = extends_by change in
      let here : slice_get changed place ≡ Some (change row) = changed_here place change now.rows row state.here in
      let sound : IsSound job changed =
      sound_kept job now.rows changed extends state.sound place
      (λ i other at_i differ. elim (changed_cases place change now.rows i other at_i) [
        | inl there ↦ there.1
        | inr same ↦ absurd (differ same.0)
      ])
      (λ other at_i.
      let one : other ≡ change row = same_Some other (change row) (sym at_i ∙ here) in
      subst (λ (k : Key). IsNode job k) (sym (ap (λ (r : PoolRow). r.key) one ∙ same_key row)) (state.sound.nodes place row state.here))
      (λ other found at_i is.
      let one : other ≡ change row = same_Some other (change row) (sym at_i ∙ here) in
      let same : worth ≡ found = same_Some worth found (sym (ap (λ (r : PoolRow). r.worth) one ∙ is_worth) ∙ is) in
      subst (λ (r : PoolRow). IsSettled job changed r found) (sym one) (subst (λ (w : Worth). IsSettled job changed (change row) w) same done))
      in
      record {
        sound = rw rows_are sound;
        grows = rw rows_are (record {
          longer = rw length-changed_at (let longer = state.longer in omega arith);
          keeps = λ i other at_i. changed_elsewhere place change now.rows i other (before_elsewhere i other at_i) (state.keeps i other at_i);
          news = λ i other at_i. elim (changed_cases place change now.rows i other at_i) [
            | inl there ↦ elim (state.others i other there.1) [
              | inl old ↦ inl old
              | inr (inl same) ↦ absurd (there.0 same)
              | inr (inr further) ↦ inr (omega arith, further.1.0)
            ]
            | inr same ↦ inr (
              omega arith,
              let one : same.1 ≡ row = here_at same.1 same.2 in
                  has_worth other worth (ap (λ (r : PoolRow). r.worth) same.3 ∙ (ap (λ (r : PoolRow). (change r).worth) one ∙ is_worth)),
            )
          ];
        });
        known = rw rows_are (inr (place, change row, here, same_key row ∙ state.its, is_worth));
        sources = rw rows_are (λ i other at_i past. elim (changed_cases place change now.rows i other at_i) [
          | inl there ↦ elim (state.others i other there.1) [
            | inl old ↦ absurd (let within = slice_get_within before.rows i other old in omega arith)
            | inr (inl same) ↦ absurd (there.0 same)
            | inr (inr further) ↦ inr (elim further.1.1 [
              | inl source ↦ source_kept job now.rows changed extends other.key source
              | inr pending ↦
                  let source = leads other.key pending in
                  (place, change row, worth, source.0, here, is_worth, source.1)
            ])
          ]
          | inr same ↦
              inl (ap (λ (r : PoolRow). r.key) same.3 ∙ (same_key same.1 ∙ (ap (λ (r : PoolRow). r.key) (here_at same.1 same.2) ∙ state.its)))
        ]);
        limit = limit_is ∙ state.limit;
        actions = actions_are ∙ state.actions;
      }
