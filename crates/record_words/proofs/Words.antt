-- Laws of a record's words.
use mathlib.Core.Path.{◌≡◌, refl, sym, ◌∙◌, ap}
use mathlib.Core.Bool.{true}
use mathlib.Core.List.{List, [], ◌∷◌, ◌++◌, append_assoc, append-nil}
use Prim.Native.Nat.{ℕ, zero, suc, ◌+◌, ◌-◌, ◌*◌, ◌≤◌, ◌<◌}
use native.Mathlib.Numerals.{add-one}
use native.Mathlib.Omega.{arith}
use lib.ListN.{length, get_or, take, drop, replicate, length-append, length-drop, drop_of_length-le, get_or-append}
use lib.Seq.{sets-eq, drop-cons, drop_at, drop-drop, drop-append-add, get_or-drop, get_or-take, ext_get_or, take-length}
use lib.Seq.{length-take-le}
use lib.Dec.{eqb}
use borrow.Author.Tests.{eqb-true, eq-eqb, le-leb}
use borrow.Rule.Slice.PartMut.{put_mid}
use Rattle.std.specs.Cmp.Lexicographic.{pointwise}
use Rattle.std.proofs.lemmas.Bool.Decides.{same_from_decides, Decides-eqb}
use Rattle.std.proofs.lemmas.Slice.Eq.{slice_eq-Decides}
use Rattle.kernel.specs.Lists.{Stored}
use Rattle.kernel.proofs.Lists.{length-tab, get_or-tab, stored_front}
use Rattle.kernel.proofs.Tests.{all_of_law, all_yes}
use Rattle.records.specs.declared.Freq.{Freq}
use Rattle.records.specs.declared.Freq.TheVariants.{Index, Hz}
use Rattle.records.specs.declared.Form.{Form}
use Rattle.records.specs.declared.Form.TheVariants.{None, Type5, Type29, Flag0, Flag1, FlagPs}
use Rattle.records.specs.declared.Stream.{Stream}
use Rattle.records.specs.declared.Record.{Record}
use Rattle.records.specs.Blank.{no_stream}
use Rattle.records.specs.Same.{form_tag, form_freq, form_ps}
use Rattle.records.proofs.Tables.{filled}
use Rattle.record_words.specs.Words.{layers_at, streams_at, stream_size, record_size, freq_choice, freq_number}
use Rattle.record_words.specs.Words.{stream_words, streams_words, words_of, freq_from, form_from, stream_from}
use Rattle.record_words.specs.Words.{layers_from, streams_from, record_from, same_words, record_in, laid_in}

-- ---- lengths

-- streams from i on: the words of stream i, and those of the streams behind it
pub streams_turn : (ss : List Stream) (i : ℕ) → i < length ss
    → streams_words (drop i ss) ≡ stream_words (get_or ss i no_stream) ++ streams_words (drop (i + 1) ss)
unfolding streams_words
streams_turn ss i h = rw (drop-cons ss i no_stream h, add-one)

pub streams_done : (ss : List Stream) → length ss ≡ 16 → streams_words (drop 16 ss) ≡ []
unfolding streams_words
streams_done ss l = let h : length ss ≤ 16 = omega arith in rw (drop_of_length-le ss h)

length_streams : (ss : List Stream) → length (streams_words ss) ≡ stream_size * length ss
unfolding streams_words
length_streams [] = refl
length_streams (s ∷ ss) = simp length-append (omega (arith, length_streams ss))

pub length_words : (r : Record) → length r.layers ≡ 16 → length r.streams ≡ 16
    → length (words_of r) ≡ record_size
length_words r k l = simp length-append (omega (arith, length_streams r.streams))

-- ---- words lent

laid_front : (w w' b : List ℕ) (to : ℕ) → Stored w 0 b w' to → to ≡ record_size → record_size ≤ length w
    → w' ≡ b ++ drop record_size w
laid_front w w' b to p e h =
    rw e at (stored_front p (omega (arith, p.next)))

pub laid_all : (w w' : List ℕ) (r : Record) (to : ℕ) → Stored w 0 (words_of r) w' to → to ≡ record_size
    → record_size ≤ length w → w' ≡ laid_in w r
unfolding laid_in
laid_all w w' r to p e h = rw (le-leb record_size (length w) h) (laid_front w w' (words_of r) to p e h)

pub laid_new : (r : Record) → laid_in (replicate record_size 0) r ≡ words_of r
unfolding laid_in
laid_new r = append-nil (words_of r)

-- the stream read from words that go on to the end
pub stream_from_law : (w : List ℕ) (n : ℕ) → stream_from (take (length w - n) (drop n w)) ≡ stream_from (drop n w)
stream_from_law w n = let e : length w - n ≡ length (drop n w) = sym (length-drop n w) in rw (e, take-length)

-- words copied over those that stand from place `at` on
pub copied : (out src : List ℕ) (at : ℕ) → at + length src ≤ length out
    → Stored out at src (put_mid at (at + length src - at) out src) (at + length src)
copied out src at h =
    let n : at + length src - at ≡ length src = omega arith in
    record { next = refl; cells = rw (n, sets-eq src out at h, drop-drop, append_assoc) }

-- the layers stand in one part of the words
pub layers_part : (w : List ℕ) → record_size ≤ length w
    → take (streams_at - layers_at) (drop layers_at w) ≡ layers_from w
layers_part w h =
    let l : length (drop layers_at w) ≡ length w - layers_at = length-drop layers_at w in
    filled 0 (λ p. get_or w (layers_at + p) 0) 16 _ (length-take-le 16 (drop layers_at w) (omega (arith, l))) λ p b.
    get_or-take 16 (drop layers_at w) p 0 b ∙ get_or-drop layers_at w p 0

-- ---- what is laid is found

found_freq : (x : Freq) → freq_from (freq_choice x) (freq_number x) ≡ x
found_freq (Index i) = refl
found_freq (Hz h) = refl

found_form : (f : Form) → form_from (form_tag f) (freq_from (freq_choice (form_freq f)) (freq_number (form_freq f)))
    (form_ps f) ≡ f
found_form None = refl
found_form (Type5 x) = ap Type5 (found_freq x)
found_form (Type29 x) = ap Type29 (found_freq x)
found_form Flag0 = refl
found_form (Flag1 x) = ap Flag1 (found_freq x)
found_form (FlagPs x b) = ap (λ y. FlagPs y b) (found_freq x)

found_stream : (s : Stream) (rest : List ℕ) → stream_from (stream_words s ++ rest) ≡ s
found_stream s rest i = record {
  config = record {
    core = s.config.core;
    freq = found_freq s.config.freq i;
    channels = s.config.channels;
    flag = s.config.flag;
    depends = s.config.depends;
    extension = s.config.extension;
    form = found_form s.config.form i;
  };
  kind = s.kind;
  fullness = s.fullness;
  fixed = s.fixed;
}

drop_streams : (i : ℕ) (ss : List Stream) (rest : List ℕ) → i ≤ length ss
    → drop (stream_size * i) (streams_words ss ++ rest) ≡ streams_words (drop i ss) ++ rest
unfolding streams_words
drop_streams zero ss rest h = refl
drop_streams (suc i) [] rest h = absurd (omega arith)
drop_streams (suc i) (s ∷ ss) rest h =
    let e : stream_size * suc i ≡ stream_size + stream_size * i = omega arith in
    rw (e, append_assoc, drop-append-add (stream_words s) (streams_words ss ++ rest) (stream_size * i))
    (drop_streams i ss rest (omega arith))

module _ (r : Record) (rest : List ℕ) (k : length r.layers ≡ 16) (l : length r.streams ≡ 16) where
  w : List ℕ
  w = words_of r ++ rest

  from_layers : drop layers_at w ≡ r.layers ++ (streams_words r.streams ++ rest)
  unfolding w
  from_layers = append_assoc r.layers (streams_words r.streams) rest

  from_streams : drop streams_at w ≡ streams_words r.streams ++ rest
  from_streams = sym (drop-drop 16 layers_at w) ∙ rw from_layers (drop_at r.layers _ 16 k)

  found_layers : layers_from w ≡ r.layers
  found_layers =
      ext_get_or 0 _ _ (length-tab 16 _ ∙ sym k) λ p h.
      let b : p < 16 = rw length-tab at h in
      get_or-tab 16 _ p 0 b ∙ sym (get_or-drop layers_at w p 0)
      ∙ rw from_layers (get_or-append r.layers _ 0 p (omega arith))

  found_streams : streams_from w ≡ r.streams
  found_streams =
      ext_get_or no_stream _ _ (length-tab 16 _ ∙ sym l) λ i h.
      let b : i < 16 = rw length-tab at h in
      get_or-tab 16 _ i no_stream b
      ∙ rw (
        ← drop-drop (stream_size * i) streams_at w,
        from_streams,
        drop_streams i r.streams rest (omega arith),
        streams_turn r.streams i (omega arith),
        append_assoc,
      )
      (found_stream (get_or r.streams i no_stream) (streams_words (drop (i + 1) r.streams) ++ rest))

  pub found_record : record_from (words_of r ++ rest) ≡ r
  unfolding w
  found_record i = record {
    version = r.version;
    subversion = r.subversion;
    tara = r.tara;
    framing = r.framing;
    subframes = r.subframes;
    programs = r.programs;
    other = r.other;
    bits = r.bits;
    checked = r.checked;
    crc = r.crc;
    layers = found_layers i;
    streams = found_streams i;
  }

-- ---- words compared

pub same_ahead : (a rest : List ℕ) → length a ≡ record_size → same_words a (a ++ rest) ≡ true
unfolding same_words
same_ahead a rest l = all_yes record_size _ λ i b. eq-eqb _ _ (sym (get_or-append a rest 0 i (omega arith)))

pub same_are : (a w : List ℕ) → length a ≡ record_size → record_size ≤ length w → same_words a w ≡ true
    → a ≡ take record_size w
unfolding same_words
same_are a w l k h =
    ext_get_or 0 a (take record_size w) (l ∙ sym (length-take-le record_size w k)) λ i b.
    let c : i < record_size = omega arith in
    eqb-true (get_or a i 0) (get_or w i 0) (all_of_law record_size _ h i c) ∙ sym (get_or-take record_size w i 0 c)

pub told_same : (a w : List ℕ) → length a ≡ record_size → record_size ≤ length w
    → pointwise eqb a (take record_size w) ≡ same_words a w
unfolding same_words
told_same a w l h =
    same_from_decides _ _ (slice_eq-Decides Decides-eqb a (take record_size w) _ refl) (
      same_are a w l h,
      λ e. all_yes record_size _ λ i b. eq-eqb _ _ (rw e (get_or-take record_size w i 0 b)),
    )

-- ---- the record of words

module _ (w : List ℕ) (r : Record) (e : record_from w ≡ r) (b : record_size ≤ length w) where
  same_as : same_words (words_of (record_from w)) w ≡ same_words (words_of r) w
  same_as = ap (λ a. same_words (words_of a) w) e

  pub is_record : same_words (words_of r) w ≡ true → record_in w ≡ r
  unfolding record_in
  is_record h = rw (le-leb record_size (length w) b, same_as, h) e
