-- What `==` tells of configurations and of records, as it is derived, is what specs/Same.antt says of them.
use Rattle.std.proofs.Common.{◌≡◌, refl, ap, ℕ, Bool, ◌&&◌, List, length, get_or, Decides, arith}
use Rattle.std.proofs.lemmas.Bool.Decides.{same_from_decides, Decides-at, Decides-eqb}
use Rattle.std.proofs.lemmas.Slice.Eq.{slice_eq-Decides}
use Rattle.std.specs.Cmp.Lexicographic.{pointwise}
use lib.Dec.{eqb}
use Rattle.kernel.specs.Lists.{all_of}
use Rattle.kernel.proofs.Tests.{and_assoc, all_yes, all_same}
use Rattle.records.specs.declared.Freq.{Freq}
use Rattle.records.specs.declared.Freq.TheVariants.{Index, Hz}
use Rattle.records.specs.declared.Form.{Form}
use Rattle.records.specs.declared.Form.TheVariants.{None, Type5, Type29, Flag0, Flag1, FlagPs}
use Rattle.records.specs.declared.Config.{Config}
use Rattle.records.specs.declared.Stream.{Stream}
use Rattle.records.specs.declared.Record.{Record}
use Rattle.records.specs.contracts.FreqPartialEq.TheImpl as freq
use Rattle.records.specs.contracts.FormPartialEq.TheImpl as form
use Rattle.records.specs.contracts.ConfigPartialEq.TheImpl as config
use Rattle.records.specs.contracts.StreamPartialEq.TheImpl as stream
use Rattle.records.specs.contracts.RecordPartialEq.TheImpl as whole
use Rattle.records.specs.Blank.{no_stream}
use Rattle.records.specs.Same.{same_freq, same_form, same_config, same_stream, same_record, same_layers, same_streams}
use Rattle.records.specs.Valid.{blank_stream}
use Rattle.records.proofs.Apart.{blank_ok}
use Rattle.records.proofs.Equal.{same_stream_eq, same_stream_refl}

freq_is : (a b : Freq) → (freq.ghosts).eq a b ≡ same_freq a b
freq_is (Index i) (Index j) = refl
freq_is (Index i) (Hz j) = refl
freq_is (Hz i) (Index j) = refl
freq_is (Hz i) (Hz j) = refl

form_is : (a b : Form) → (form.ghosts).eq a b ≡ same_form a b
form_is None b = grind (arith, freq_is)
form_is (Type5 x) b = grind (arith, freq_is)
form_is (Type29 x) b = grind (arith, freq_is)
form_is Flag0 b = grind (arith, freq_is)
form_is (Flag1 x) b = grind (arith, freq_is)
form_is (FlagPs x c) b = grind (arith, freq_is)

pub config_is : (a b : Config) → (config.ghosts).eq a b ≡ same_config a b
config_is a b = grind (arith, freq_is a.freq b.freq, form_is a.form b.form)

to_last : (x a b c : Bool) → (x && (a && (b && c))) ≡ (a && b && c && x)
to_last x a b c = grind arith

stream_is : (a b : Stream) → (stream.ghosts).eq a b ≡ same_stream a b
stream_is a b =
    let c = (config.ghosts).eq a.config b.config in
    rw (← config_is a.config b.config) (to_last c (eqb a.kind b.kind) (eqb a.fullness b.fullness) (eqb a.fixed b.fixed))

pub blank_is : (s : Stream) → (stream.ghosts).eq s no_stream ≡ blank_stream s
blank_is s =
    same_from_decides _ _
    (Decides-at _ _ (stream_is s no_stream) (same_stream_eq s no_stream, λ e. rw e (same_stream_refl no_stream)))
    (blank_ok s, λ e. rw e)

-- lists of n places, by a test that tells whether two values are equal
pointwise_is : {A : Type 0} (d : A) (E same : A → A → Bool) → ((a b : A) → E a b ≡ same a b)
    → ((a b : A) → Decides (same a b) (a ≡ b))
    → (n : ℕ) (xs ys : List A) → length xs ≡ n → length ys ≡ n
    → pointwise E xs ys ≡ all_of n (λ i. same (get_or xs i d) (get_or ys i d))
pointwise_is d E same is dec n xs ys l k =
    same_from_decides _ _ (slice_eq-Decides (λ a b. Decides-at _ _ (is a b) (dec a b)) xs ys _ refl) (
      all_same d same (λ a b. (dec a b).0) n xs ys l k,
      λ e. all_yes n _ λ i _. (dec _ _).1 (ap (λ zs. get_or zs i d) e),
    )

layers_are : (a b : List ℕ) → length a ≡ 16 → length b ≡ 16 → pointwise eqb a b ≡ same_layers a b
layers_are = pointwise_is 0 eqb eqb (λ a b. refl) Decides-eqb 16

streams_are : (a b : List Stream) → length a ≡ 16 → length b ≡ 16
    → pointwise ((stream.ghosts).eq) a b ≡ same_streams a b
streams_are =
    pointwise_is no_stream _ same_stream stream_is (λ a b. (same_stream_eq a b, λ e. rw e (same_stream_refl b))) 16

two_last : (h x y a b c d : Bool) → (h && x && y && a && b && c && d) ≡ (h && a && b && c && d && x && y)
two_last h x y a b c d = grind arith

-- twelve tests, the two of the lists put last
lists_last : (a b c d e f x y g h i j : Bool)
    → (a && (b && (c && (d && (e && (f && (x && (y && (g && (h && (i && j)))))))))))
    ≡ (a && b && c && d && e && f && g && h && i && j && x && y)
lists_last a b c d e f x y g h i j = simp and_assoc (two_last (a && b && c && d && e && f) x y g h i j)

pub record_is : (a b : Record) → length a.layers ≡ 16 → length b.layers ≡ 16 → length a.streams ≡ 16
    → length b.streams ≡ 16
    → (whole.ghosts).eq a b ≡ same_record a b
record_is a b ka kb sa sb =
    rw (← layers_are a.layers b.layers ka kb, ← streams_are a.streams b.streams sa sb)
    (lists_last (eqb a.version b.version) (eqb a.subversion b.subversion) (eqb a.tara b.tara)
    (eqb a.framing b.framing) (eqb a.subframes b.subframes) (eqb a.programs b.programs)
    (pointwise eqb a.layers b.layers) (pointwise ((stream.ghosts).eq) a.streams b.streams)
    (eqb a.other b.other) (eqb a.bits b.bits) (eqb a.checked b.checked) (eqb a.crc b.crc))
