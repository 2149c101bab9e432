-- The laws, each from its lemmas.
use Rattle.std.proofs.Common.{ap, arith, lit≤}
use Rattle.keys.specs.Rule.{Rule, Lawful}
use Rattle.tree.specs.Maps.{size, put, without, made}
use Rattle.tree.specs.Prefix.{pre}
use Rattle.tree.specs.Loads.{hashed, loads}
use Rattle.tree.specs.Trees.{number}
use Rattle.tree.specs.Laws.{LoadsSplit, LoadsFall, OneBucket, EntryNamed, AllListed, EqualMaps, StillMap, OnlyAlong, AllAlong, RoomTested, PutSplits, PutMerges, DeleteMerges, EightAtMost, EitherOrder, LaterAlone, SiblingTest, RecoverTest, Parted, DepthTold, FoundByHash, Widened, Narrowed, SplitHolds, MergeHolds, BucketTells, StopsThere, OneBitUp, OneFree}
use Rattle.tree.proofs.Prefixes.{pre_below, root_below}
use Rattle.tree.proofs.Loading.{load_splits, load_mono}
use Rattle.tree.proofs.Sets.{free_number}
use Rattle.tree.proofs.Partition.{has_bucket, falls_once, falls_bucket, bucket_falls}
use Rattle.tree.proofs.Listing.{listed_bucket, bucket_listed, buckets_once}
use Rattle.tree.proofs.Mapping.{sound_once, same_buckets, put_grows, put_shrinks, without_shrinks}
use Rattle.tree.proofs.Changes.{grown_split, made_sound, made_off, made_on, made_near, either_order, either_loads, later_alone}
use Rattle.tree.proofs.Directory.{tested_falls, falls_tested, falls_parts}
use Rattle.tree.proofs.Recovering.{pages_hold, tree_bytes, depth_is, depth_entry}
use Rattle.tree.proofs.Entries.{entry_named, falls_from, falls_root, load_up, heavy_up, roomy_beside}
use Rattle.tree.proofs.Updating.{holds_find, widen_holds, narrow_holds, change_split, change_merge, begun_load, begun_bytes}

module _ (R : Rule) where
  pub splits : LoadsSplit R
  splits m = load_splits _ _ m

  pub falls : LoadsFall R
  falls m = load_mono (loads R m) (load_splits _ _ m)

  pub one_bucket : OneBucket R
  one_bucket m r h k =
      let a = has_bucket (loads R m) 32 h (r (pre 32 h 8) (pre_below 32 h 8 (lit≤ tt) k)) in
      (a.0, a.1, falls_bucket (loads R m) 32 h a.0 (omega (arith, a.1)) a.2, λ j w b. falls_once (loads R m) 32 h j a.0 (bucket_falls (loads R m) 32 h j w b) a.2)

  pub names : EntryNamed R
  names m r i h = entry_named (loads R m) r i h

  pub listed : AllListed R
  listed m = (
    (λ n p h l b. bucket_listed (loads R m) n p h l b),
    (λ b i. let r = listed_bucket (loads R m) b i in (r.0, root_below b.0 b.1 r.1, r.2)),
    buckets_once (loads R m),
  )

  pub still : StillMap R
  still = made_sound R

  pub siblings : SiblingTest R
  siblings m w d h parts =
      ((λ t i l. tested_falls (loads R m) (load_splits _ _ m) w h d parts t i l), λ f. falls_tested (loads R m) (load_splits _ _ m) w h d parts f)

  pub recovers : RecoverTest R
  recovers w d recs h pages = ((λ t. pages_hold (hashed R) size w h d recs pages t), λ f. tree_bytes (hashed R) size w h d recs pages f)

  pub parted : Parted R
  parted m w d recs o = falls_parts (loads R m) w d o.short o.falls

  pub deep : DepthTold R
  deep m w d recs h o = (
    depth_is (loads R m) (load_splits _ _ m) w h d o.short o.falls,
    depth_entry (loads R m) (load_splits _ _ m) w h d o.short o.falls,
  )

  pub widened : Widened R
  widened = widen_holds (hashed R) size

  pub narrowed : Narrowed R
  narrowed = narrow_holds (hashed R) size

  pub stops : StopsThere R
  stops m h = (falls_root (loads R m) h, falls_from (loads R m) (load_splits _ _ m) h)

  module _ (law : Lawful R) where
    pub equal : EqualMaps R
    equal = same_buckets R law

    pub only : OnlyAlong R
    only c m v s = made_off R law c m v s.valid

    pub all : AllAlong R
    all c m v s = made_on R law c m v s.valid

    pub tested : RoomTested R
    tested c m v s r k = roomy_beside _ (loads R m) (loads R (made R c m)) (load_splits _ _ (made R c m)) (only c m v s) r k

    pub put_splits : PutSplits R
    put_splits r m v s k h = grown_split _ _ _ (load_splits _ _ m) (load_splits _ _ (put R r m)) (put_grows R law r m v s.valid h) (law.bits r.key) k

    pub put_merges : PutMerges R
    put_merges r m v s k h = grown_split _ _ _ (load_splits _ _ (put R r m)) (load_splits _ _ m) (put_shrinks R law r m v s.valid h) (law.bits r.key) k

    pub delete_merges : DeleteMerges R
    delete_merges k m v s r = grown_split _ _ _ (load_splits _ _ (without R k m)) (load_splits _ _ m) (without_shrinks R law k m v s.valid) (law.bits k) r

    pub near : EightAtMost R
    near c m v s r r' = made_near R law c m v s.valid r r'

    pub order : EitherOrder R
    order c d m s v w h = (either_order R law c d m v w h, ap number (either_loads R law c d m s v w h))

    pub later : LaterAlone R
    later c d m s v w h = later_alone R law c d m s.valid v w h

    pub found : FoundByHash R
    found m w d recs o k r = holds_find (hashed R) size m w d recs o k r (law.bits r.key)

    pub split_holds : SplitHolds R
    split_holds c m v s w d d' recs recs' k o l n le short a b step = change_split R law c m v s.valid w d d' recs recs' k o l n short a b le step

    pub merge_holds : MergeHolds R
    merge_holds c m v s w d d' recs recs' k o l n le short a b step = change_merge R law c m v s.valid w d d' recs recs' k o l n short a b le step

    pub tells : BucketTells R
    tells m xs n p s t h b =
        let om = sound_once R law m s.valid s.apart in
        let ox = sound_once R law xs t.valid t.apart in
        (begun_bytes (hashed R) size m xs n p om ox b h, begun_load (hashed R) size m xs n p om ox b)

    pub up : OneBitUp R
    up c m v s w i n l k e = (
      load_up _ (loads R m) (loads R (made R c m)) (load_splits _ _ (made R c m)) (only c m v s) w i n l k e,
      heavy_up _ (loads R m) (loads R (made R c m)) (load_splits _ _ (made R c m)) (only c m v s) w i n l k e,
    )

pub free : OneFree
free = free_number
