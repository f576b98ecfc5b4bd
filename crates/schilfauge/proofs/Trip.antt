-- What was written comes back through the words lent.
use mathlib.Core.Path.{◌≡◌, refl, sym, ap, subst, ◌∙◌}
use mathlib.Core.Bool.{Bool, true, false, cond, ◌&&◌}
use mathlib.Core.Logic.{◌⊎◌, inl, inr}
use mathlib.Core.List.{List, [], ◌∷◌, ◌++◌}
use Prim.Native.Nat.{ℕ, ◌+◌, ◌^◌, ◌≤◌, ◌<◌}
use native.Mathlib.Omega.{arith}
use lib.Dec.{leb}
use lib.ListN.{length, get_or, take}
use lib.Seq.{take-length, length-take-le}
use Rattle.std.specs.Prelude.{Some, Result, Ok}
use Rattle.kernel.specs.declared.Refusal.{Refusal}
use Rattle.kernel.specs.Bits.{bit}
use Rattle.kernel.proofs.Lists.{length-tab}
use Rattle.records.specs.Blank.{no_record}
use Rattle.records.specs.Valid.{valid_of}
use Rattle.record_words.specs.Words.{record_size, words_of, record_from, same_words, record_in}
use Rattle.record_words.proofs.Theorems.{found_has_the_words, blank_is_refused}
use Rattle.sync.specs.Sync.{framed_of}
use Rattle.sync.specs.Sync as sync
use Rattle.sync.specs.Promises as promises
use Rattle.sync.specs.Claims.{FoundAt}
use Rattle.sync.proofs.Theorems.{right_is_framed, element_is_inside, written_is_found}
use Rattle.element.specs.Reply.{verdict_of}
use Rattle.kernel.proofs.Kept.{chosen}
use Rattle.writer.specs.Written.{Sent}
use Rattle.writer.specs.Write.{written_of, out_after}
use Rattle.writer.specs.Claims.{Typed, ReadsBack}
use Rattle.writer.proofs.Whole.{not_sent}
use Rattle.writer.proofs.Back.{shows_back}
use Rattle.writer.proofs.Theorems.{written_reads_back, bytes_behind_stay, done_is_right}
use Rattle.schilfauge.specs.Lent.{number_of, found_after, held_in, held_words, held_after, answer_words}
use Rattle.schilfauge.specs.Lent.{sent_in, told_after}
use Rattle.schilfauge.specs.Promises.{HuntPromise, ReadPromise, FramePromise}
use Rattle.schilfauge.specs.Claims.{element_in, FoundBack, ReadBack, Trip}
use Rattle.schilfauge.proofs.Words.{held_laid}
use Rattle.schilfauge.proofs.Numbers.{written_16, done_0}

-- ---- the record of words of 32 bits

record_typed : (w : List ℕ) → ((i : ℕ) → get_or w i 0 < 2 ^ 32) → Typed (record_in w)
unfolding record_in
record_typed w h =
    chosen Typed (leb record_size (length w)
    && same_words (words_of (record_from w)) w) (record_from w) no_record
    (length-tab 16 _, length-tab 16 _, h _, h _) (refl, refl, omega arith, omega arith)

-- where it is valid, the words are its own
words_are : (w : List ℕ) → length w ≡ record_size → valid_of (record_in w) ≡ true → words_of (record_in w) ≡ w
words_are w l v = go (found_has_the_words w)
  where
    go : (words_of (record_in w) ≡ take record_size w) ⊎ (record_in w ≡ no_record) → words_of (record_in w) ≡ w
    go (inl e) = e ∙ rw l at (take-length w)
    go (inr e) = let z : bit false ≡ bit true = ap bit (sym blank_is_refused ∙ rw e at v) in absurd (omega arith)

-- ---- framed, and found

-- from its start
shown : (s el : List ℕ) (p : ℕ) → FoundAt s p el → (found : List ℕ) (x : ℕ) (found' : List ℕ)
    → HuntPromise s p found x found'
    → (x ≡ 0) × (found' ≡ p ∷ length el ∷ []) × (element_in s found' ≡ el)
shown s el p (h, e) found x found' q =
    let f : found' ≡ p ∷ length el ∷ [] = q.1 ∙ ap (found_after found) h in
    (q.0 ∙ ap number_of h, f, rw f (sym (element_is_inside s p p (length el) h).4 ∙ e))

module _ (el out : List ℕ) (size x : ℕ) (out' : List ℕ) (size' : ℕ) (promise : FramePromise el out size x out' size')
    (some : 1 ≤ length el) (few : length el ≤ 8191) (room : 3 + length el ≤ length out) where
  done : framed_of el (length out) ≡ Ok (3 + length el)
  done = right_is_framed el (length out) some few room

  laid : promises.FramePromise el out (Ok (3 + length el)) out'
  laid = (sym done, promise.1.0 ∙ ap (sync.out_after el out) done)

  framed_back : (x ≡ 0) × FoundBack el (take size' out')
  framed_back =
      let n : size' ≡ 3 + length el = promise.1.1 ∙ ap (told_after size) done in (
        promise.0 ∙ ap number_of done,
        rw n
            (λ before more f h. shown _ el (length before)
            (written_is_found before el out (3 + length el) out' more laid f h)),
      )

-- ---- read

module _ (w : Sent) (words el held map : List ℕ) (own : words_of w.config ≡ words) where
  then_held : (b : Bool) → (b ≡ true) ⊎ (held ≡ words ++ (1 ∷ []))
      → cond b (held_words w.config) held ≡ words ++ (1 ∷ [])
  then_held true h = ap (λ (x : List ℕ). x ++ (1 ∷ [])) own
  then_held false h = not_sent h

  read_back : (x : ℕ) (held' map' told' : List ℕ) → ReadPromise el held map x held' map' told'
      → (w.send ≡ true) ⊎ (held ≡ words ++ (1 ∷ [])) → ReadsBack w el (held_in held) (length map)
      → ReadBack w words el x held' map' told'
  read_back x held' map' told' p h b = record {
    items = length b.items;
    fields = b.count;
    number = p.0 ∙ ap (λ z. number_of (verdict_of z)) b.accepts;
    tells = p.1.1.1 ∙ ap (λ z. answer_words (verdict_of z)) b.accepts;
    holds = p.1.0 ∙ ap (held_after held) b.accepts ∙ then_held w.send h;
    shows = rw p.1.1.0 (shows_back w el (held_in held) map b);
  }

-- ---- all together

module _ (words : List ℕ) (l : length words ≡ record_size) (small : (i : ℕ)
    → get_or words i 0 < 2 ^ 32) (send : Bool) (lengths payload other out : List ℕ) (size : ℕ) where
  abbrev w : Sent
  w = sent_in words send lengths payload other

  same_held : (held : List ℕ) → words_of (record_in words) ≡ words → Typed (record_in words)
      → (send ≡ true) ⊎ (held ≡ words ++ (1 ∷ []))
      → (send ≡ true) ⊎ (held_in held ≡ Some (record_in words))
  same_held held own t (inl e) = inl e
  same_held held own t (inr e) =
      let q : held ≡ held_words (record_in words) = e ∙ ap (λ (x : List ℕ). x ++ (1 ∷ [])) (sym own) in
      inr (ap held_in q ∙ held_laid (record_in words) t.0 t.1)

  pub trip : number_of (written_of w (length out)) ≡ 0
      → Trip w words (take (told_after size (written_of w (length out))) (out_after w out (written_of w (length out))))
  trip e =
      let n = told_after size (written_of w (length out)) in
      let d : written_of w (length out)
      ≡ Ok n = done_0 size (written_of w (length out)) (written_16 w (length out)) e in
      let r = done_is_right w (length out) n d in
      let el = take n (out_after w out (written_of w (length out))) in
      let k : length el ≡ n =
      length-take-le n (out_after w out (written_of w (length out)))
      (omega (arith, (bytes_behind_stay w out n d).0, r.5)) in
      let some : 1 ≤ length el = omega (arith, k, r.3) in
      let few : length el ≤ 8191 = omega (arith, k, r.4) in
      let t = record_typed words small in
      let own = words_are words l r.0 in
      record {
        framed = λ out₂ size₂ x out₂' size₂' p room. framed_back el out₂ size₂ x out₂' size₂' p some few room;
        read = λ held map x held' map' told' p h room.
            let q = same_held held own t h in
            read_back w words el held map own x held' map' told' p h
            (subst (λ (z : Result ℕ Refusal). ReadsBack w (take n (out_after w out z)) (held_in held) (length map)) (sym d)
            (written_reads_back w out n t d (held_in held) q (length map) room));
      }
