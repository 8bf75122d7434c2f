-- What was read of an accounts file, and what the whole file means.
use Rattle.std.proofs.Common.{◌≡◌, ◌<◌, ℕ, nat_le, List, length, take, Bool, true, false, if◌then◌else◌, Option, None, Some, unwrap_or, refl, sym, ap, subst, ◌∙◌, arith, take_all, length-take-le, true≢false}
use Rattle.std.proofs.lemmas.Bool.{lt-leb, leb-true, leb-false}
use Rattle.std.specs.Prelude.{Ok, IfSome}
use Rattle.std.specs.Option.{ForSome}
use Rattle.doip_json.specs.Read.{reading}
use Rattle.acl_core.specs.Known.{Known}
use Rattle.acl_core.specs.File.{file_known, if_read}
use Rattle.link_core.specs.Host.{Holdings, IsCopyOf, file_at}
use Rattle.link_core.specs.declared.host.HostFault.{HostFault}
use Rattle.repo_top.specs.AccountsFile.{HoldsFile, WasRead}

-- one byte more than an accounts file may have is enough to see that it is longer
too_long : (bytes : List ℕ) → 1048576 < length bytes → file_known bytes ≡ None
too_long bytes long = ap (λ b. if b then if_read (reading bytes 64) else None) (lt-leb (length bytes) 1048576 long)

pub first_bytes : (all : List ℕ) → file_known (take 1048577 all) ≡ file_known all
first_bytes all = by (nat_le (length all) 1048577) refl
  where
    by : (b : Bool) → nat_le (length all) 1048577 ≡ b → file_known (take 1048577 all) ≡ file_known all
    by true e = ap file_known (take_all 1048577 all (leb-true (length all) 1048577 e))
    by false e =
        let long : 1048577 < length all = leb-false (length all) 1048577 e in
        too_long (take 1048577 all) (omega (arith, length-take-le 1048577 all (omega (arith, long)), long))
        ∙ sym (too_long all (omega (arith, long)))

-- what was read at a path
pub was_read : (path : List ℕ) (holds : Option Holdings) (bytes : List ℕ) (listed : Option Known) → file_known bytes ≡ listed
    → IfSome holds (λ h. IsCopyOf {E = HostFault} (file_at path h.files) 1048577 (Ok bytes)) → WasRead path holds listed
was_read path holds bytes listed is copy = record { bytes = bytes; lists = is; held = by holds copy }
  where
    file : (h : Holdings) (o : Option (List ℕ)) → file_at path h.files ≡ o → IsCopyOf {E = HostFault} o 1048577 (Ok bytes)
        → HoldsFile path listed h
    file h None e copy = absurd (true≢false (sym copy))
    file h (Some all) e copy = record {
      bytes = all;
      there = e;
      lists = sym (first_bytes all) ∙ (ap file_known (sym copy) ∙ is);
    }

    by : (holds : Option Holdings) → IfSome holds (λ h. IsCopyOf {E = HostFault} (file_at path h.files) 1048577 (Ok bytes))
        → ForSome holds (HoldsFile path listed)
    by None copy = λ h e. absurd (cc e)
    by (Some h) copy = λ h' e. subst (HoldsFile path listed) (ap (λ o. unwrap_or o h) e) (file h (file_at path h.files) refl copy)
