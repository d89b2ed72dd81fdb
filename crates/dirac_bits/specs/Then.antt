-- Reading of fields that follow one another: a reader of a group of fields may be called by the reader of the whole.
use Rattle.std.specs.Prelude.{◌≡◌, refl, Result, Ok, Err}
use Rattle.dirac_common.specs.Chain.{◌>>=◌ as ◌>>◌}
use Rattle.dirac_bits.specs.Cursor.{Cursor, place, aligned}
use Rattle.dirac_bits.specs.Fields.{flag_at, uint_at, sint_at, literal_at, block_read_at}
use Rattle.dirac_bits.specs.Syntax.{Syntax, done, flag_then, uint_then, sint_then, literal_then, block_then, align_then}
use Rattle.dirac_bits.specs.Syntax.{here_then, refuse, ◌>>=◌, read}

-- a step whose next steps are two in turn
step_then : {A B C E : Type 0} (r : Result A E) (g : A → Result B E) (h : B → Result C E) (k : A → Result C E)
    → ((x : A) → k x ≡ (g x >> h)) → (r >> k) ≡ ((r >> g) >> h)
step_then (Ok x) g h k same = same x
step_then (Err e) g h k same = refl

-- fields and then others are read as the first and then the others
pub read_then : {A B : Type 0} (s : Syntax A) (f : A → Syntax B) (c : Cursor) → read (s >>= f) c
    ≡ (read s c >> λ x. read (f x.0) x.1)
read_then (done x) f c = refl
read_then (flag_then g) f c =
    step_then (flag_at c) (λ b. read (g b.0) b.1) (λ x. read (f x.0) x.1) (λ b. read (g b.0
    >>= f) b.1) (λ b. read_then (g b.0) f b.1)
read_then (uint_then g) f c =
    step_then (uint_at c) (λ n. read (g n.0) n.1) (λ x. read (f x.0) x.1) (λ n. read (g n.0
    >>= f) n.1) (λ n. read_then (g n.0) f n.1)
read_then (sint_then g) f c =
    step_then (sint_at c) (λ z. read (g z.0) z.1) (λ x. read (f x.0) x.1) (λ z. read (g z.0
    >>= f) z.1) (λ z. read_then (g z.0) f z.1)
read_then (literal_then g) f c =
    step_then (literal_at c) (λ n. read (g n.0) n.1) (λ x. read (f x.0) x.1) (λ n. read (g n.0
    >>= f) n.1) (λ n. read_then (g n.0) f n.1)
read_then (block_then len g) f c =
    step_then (block_read_at len c) (λ n. read (g n.0) n.1) (λ x. read (f x.0) x.1) (λ n. read (g n.0
    >>= f) n.1) (λ n. read_then (g n.0) f n.1)
read_then (align_then s) f c = read_then s f (aligned c)
read_then (here_then g) f c = read_then (g (place c)) f c
read_then (refuse at cause) f c = refl
