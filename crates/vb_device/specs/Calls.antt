-- What the calls on a device do, by old and new of guest memory and of the device's part (VIRTIO
-- 1.1, 5.5.6; frames and refusals are the profile's): by topic, each in a file of its own. What a
-- call leaves is said as a change of named fields of the old part, so that a device which keeps
-- frames of its own may wrap another.
pub use Rattle.vb_device.specs.Loose.{SameFrames, PopsLoose, GoBack, HandsBack}
pub use Rattle.vb_device.specs.Attaches.{IsUnused, attached, DetachesBy}
pub use Rattle.vb_device.specs.Takes.{HasChain, HasFault, taking, noting}
pub use Rattle.vb_request.specs.Asked.{request_of, noted}
pub use Rattle.vb_device.specs.Takes.{IsNextRequest, TakeMeans, TakesBy}
pub use Rattle.vb_device.specs.Visits.{next_visit, Visits, WorksBy, SweepsBy}
pub use Rattle.vb_device.specs.Finishes.{without_frames, lost_frames, settled, using, Uses}
pub use Rattle.vb_device.specs.Finishes.{FinishesBy, AsksBy}
pub use Rattle.vb_device.specs.Serves.{UsesFirst, FollowsTake, ServesBy}
pub use Rattle.vb_device.specs.OwnFrames.{Claims, IsAnswered, PutsBack}
